-- What a request asks for.
use Rattle.std.specs.Prelude.{[], map, option_map, unwrap_or}
use Rattle.command_words.specs.Asked.{Asked, look, board, svg, play, moves, moves_json, perft, divide, lines, solve, solve_json, solve_on, solve_json_on}
use Rattle.command_words.specs.Asked.{limited, limited_json, verify, verify_on, verify_limited, verify_limited_json, verify_json, verify_imported, tree}
use Rattle.command_words.specs.Asked.{tree_on, tree_limited, tree_json, sheet, imports, serve, replay, explain, uci}
use Rattle.command_words.specs.declared.request.Request.{Request}
use Rattle.command_words.specs.declared.request.Request.TheVariants.{Look, Board, Svg, Play, Moves, MovesJson, Perft, Divide, Lines}
use Rattle.command_words.specs.declared.request.Request.TheVariants.{Solve, SolveJson, SolveOn, SolveJsonOn, Limited, LimitedJson, Verify, VerifyOn}
use Rattle.command_words.specs.declared.request.Request.TheVariants.{VerifyLimited, VerifyLimitedJson, VerifyJson, VerifyImported, Tree, TreeOn, TreeLimited}
use Rattle.command_words.specs.declared.request.Request.TheVariants.{TreeJson, Sheet, Import, Serve, Replay, Explain, Uci}

abbrev pub plan_of : Request → Asked
plan_of (Look fen) = look fen.now
plan_of (Board fen side) = board fen.now side
plan_of (Svg fen side) = svg fen.now side
plan_of (Play fen names) = play fen.now (unwrap_or (option_map (λ names. map (λ s. s.now) names.now) names) [])
plan_of (Moves form fen) = moves form fen.now
plan_of (MovesJson fen) = moves_json fen.now
plan_of (Perft fen depth) = perft fen.now depth
plan_of (Divide fen depth) = divide fen.now depth
plan_of (Lines view names) = lines view (map (λ s. s.now) names.now)
plan_of (Solve asked) = solve asked.bound asked.memo asked.files.from (map (λ s. s.now) asked.files.names.now)
plan_of (SolveJson asked) = solve_json asked.bound asked.memo asked.files.from (map (λ s. s.now) asked.files.names.now)
plan_of (SolveOn asked) = solve_on asked.workers asked.bound asked.memo asked.files.from (map (λ s. s.now) asked.files.names.now)
plan_of (SolveJsonOn asked) = solve_json_on asked.workers asked.bound asked.memo asked.files.from (map (λ s. s.now) asked.files.names.now)
plan_of (Limited seconds asked) = limited seconds asked.bound asked.memo asked.files.from (map (λ s. s.now) asked.files.names.now)
plan_of (LimitedJson seconds asked) = limited_json seconds asked.bound asked.memo asked.files.from (map (λ s. s.now) asked.files.names.now)
plan_of (Verify asked) = verify asked.bound asked.memo asked.header asked.files.from (map (λ s. s.now) asked.files.names.now)
plan_of (VerifyOn asked) = verify_on asked.workers asked.bound asked.memo asked.header asked.files.from (map (λ s. s.now) asked.files.names.now)
plan_of (VerifyJson asked) = verify_json asked.bound asked.memo asked.files.from (map (λ s. s.now) asked.files.names.now)
plan_of (VerifyImported asked) = verify_imported asked.bound asked.memo asked.header asked.letters.now asked.placements.now asked.files.from
    (map (λ s. s.now) asked.files.names.now)
plan_of (VerifyLimited seconds asked) = verify_limited seconds asked.bound asked.memo asked.header asked.files.from (map (λ s. s.now) asked.files.names.now)
plan_of (VerifyLimitedJson seconds asked) = verify_limited_json seconds asked.bound asked.memo asked.files.from (map (λ s. s.now) asked.files.names.now)
plan_of (Tree asked) = tree asked.bound asked.form asked.letters.now asked.files.from (map (λ s. s.now) asked.files.names.now)
plan_of (TreeOn asked) = tree_on asked.workers asked.bound asked.form asked.letters.now asked.files.from (map (λ s. s.now) asked.files.names.now)
plan_of (TreeLimited seconds asked) = tree_limited seconds asked.bound asked.form asked.letters.now asked.files.from (map (λ s. s.now) asked.files.names.now)
plan_of (TreeJson asked) = tree_json asked.bound asked.form asked.letters.now asked.files.from (map (λ s. s.now) asked.files.names.now)
plan_of (Sheet asked) = sheet asked.bound asked.memo asked.form asked.letters.now asked.title.now (map (λ s. s.now) asked.names.now)
plan_of (Import asked) = imports asked.keep asked.bound asked.letters.now asked.placements.now (map (λ s. s.now) asked.names.now)
plan_of (Serve asked) = serve asked.workers asked.bound asked.memo (map (λ s. s.now) asked.names.now)
plan_of (Replay name) = replay name.now
plan_of (Explain words) = explain (unwrap_or (option_map (λ words. map (λ s. s.now) words.now) words) [])
plan_of Uci = uci
