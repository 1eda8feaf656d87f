use Rattle.std.proofs.Common.{ℕ, ◌<◌, ◌^◌, bit_and, bit_or, sym, ◌∙◌, arith}
use Rattle.std.proofs.lemmas.Bool.{and_parts}
use Rattle.std.proofs.lemmas.Nat.{and_le_l}
use Rattle.square_sets.specs.Members.{has}
use Rattle.chess_board.specs.declared.men.Kind.TheVariants.{Pawn}
use Rattle.chess_moves.proofs.SetBits.{has_and}
use Rattle.chess_moves.proofs.Tallies.{many_parts, few_of_kind, rest_of_set}
use Rattle.chess_moves.proofs.perft_count.count_pawns.Goals as goal

pub count_from-requires-clause-men : goal.count_from-requires-clause-men
count_from-requires-clause-men c = λ s l on.
    c.requires.men s l ((and_parts (has c.args.pawns s) (has (bit_or c.args.info.now.pin_squares c.en_passant_origins.result) s)
    (sym (has_and c.args.pawns (bit_or c.args.info.now.pin_squares c.en_passant_origins.result) s) ∙ on)).0)

pub count_free_pawns-requires-clause-men : goal.count_free_pawns-requires-clause-men
count_free_pawns-requires-clause-men c = λ s l on.
    let pawns : ℕ = c.args.pawns in
    let held : ℕ = bit_or c.args.info.now.pin_squares c.en_passant_origins.result in
    let fits : bit_and pawns held < 2 ^ 64 = omega (arith, and_le_l pawns held) in
    c.requires.men s l ((rest_of_set pawns c.args.info.now.pin_squares c.en_passant_origins.result s fits l on).0)

pub count_free_pawns-requires-clause-free : goal.count_free_pawns-requires-clause-free
count_free_pawns-requires-clause-free c = λ o l on.
    let pawns : ℕ = c.args.pawns in
    let held : ℕ = bit_or c.args.info.now.pin_squares c.en_passant_origins.result in
    let fits : bit_and pawns held < 2 ^ 64 = omega (arith, and_le_l pawns held) in
    let q = rest_of_set pawns c.args.info.now.pin_squares c.en_passant_origins.result o fits l on in
    (q.1, λ t k. c.en_passant_origins.ensures o t l k q.2)

pub returns-clause-count : goal.returns-clause-count
returns-clause-count c =
    let p = c.args.info.now.position.now in
    let pawns : ℕ = c.args.pawns in
    let held : ℕ = bit_or c.args.info.now.pin_squares c.en_passant_origins.result in
    let alone : ℕ = bit_and pawns held in
    let fits : alone < 2 ^ 64 = omega (arith, and_le_l pawns held) in
    omega (
      arith,
      c.count_from.ensures.count,
      c.count_free_pawns.ensures.count,
      many_parts p pawns alone fits (λ s l on. (and_parts (has pawns s) (has held s) (sym (has_and pawns held s) ∙ on)).0),
    )

pub returns-clause-few : goal.returns-clause-few
returns-clause-few c =
    let whole = returns-clause-count c in
    omega (
      arith,
      whole,
      few_of_kind c.args.info.now.position.now Pawn c.args.pawns c.args.info.now.own
          c.requires.info.sound c.requires.info.own c.requires.men,
    )
