use Rattle.plain_commands.proofs.answering.answer.Goals as goal

pub returns-in-Look-clause-ok : goal.returns-in-Look-clause-ok
returns-in-Look-clause-ok g c = rw (c.in-Look.is) c.show_fen.ensures.ok

pub returns-in-Look-clause-err : goal.returns-in-Look-clause-err
returns-in-Look-clause-err g c = rw (c.in-Look.is) c.show_fen.ensures.err

pub returns-in-Board-clause-ok : goal.returns-in-Board-clause-ok
returns-in-Board-clause-ok g c = rw (c.in-Board.is) c.show_fen-in-Board.ensures.ok

pub returns-in-Board-clause-err : goal.returns-in-Board-clause-err
returns-in-Board-clause-err g c = rw (c.in-Board.is) c.show_fen-in-Board.ensures.err

pub returns-in-Svg-clause-ok : goal.returns-in-Svg-clause-ok
returns-in-Svg-clause-ok g c = rw (c.in-Svg.is) c.show_fen-in-Svg.ensures.ok

pub returns-in-Svg-clause-err : goal.returns-in-Svg-clause-err
returns-in-Svg-clause-err g c = rw (c.in-Svg.is) c.show_fen-in-Svg.ensures.err

pub returns-in-Play-clause-ok : goal.returns-in-Play-clause-ok
returns-in-Play-clause-ok g c = rw (c.in-Play.is) c.play_given.ensures.ok

pub returns-in-Play-clause-err : goal.returns-in-Play-clause-err
returns-in-Play-clause-err g c = rw (c.in-Play.is) c.play_given.ensures.err

pub returns-in-Moves-clause-ok : goal.returns-in-Moves-clause-ok
returns-in-Moves-clause-ok g c = rw (c.in-Moves.is) c.show_fen-in-Moves.ensures.ok

pub returns-in-Moves-clause-err : goal.returns-in-Moves-clause-err
returns-in-Moves-clause-err g c = rw (c.in-Moves.is) c.show_fen-in-Moves.ensures.err

pub returns-in-MovesJson-clause-ok : goal.returns-in-MovesJson-clause-ok
returns-in-MovesJson-clause-ok g c = rw (c.in-MovesJson.is) c.show_moves_json.ensures.ok

pub returns-in-MovesJson-clause-err : goal.returns-in-MovesJson-clause-err
returns-in-MovesJson-clause-err g c = rw (c.in-MovesJson.is) c.show_moves_json.ensures.err

pub returns-in-Perft-clause-ok : goal.returns-in-Perft-clause-ok
returns-in-Perft-clause-ok g c = rw (c.in-Perft.is) c.show_fen-in-Perft.ensures.ok

pub returns-in-Perft-clause-err : goal.returns-in-Perft-clause-err
returns-in-Perft-clause-err g c = rw (c.in-Perft.is) c.show_fen-in-Perft.ensures.err

pub returns-in-Divide-clause-ok : goal.returns-in-Divide-clause-ok
returns-in-Divide-clause-ok g c = rw (c.in-Divide.is) c.show_fen-in-Divide.ensures.ok

pub returns-in-Divide-clause-err : goal.returns-in-Divide-clause-err
returns-in-Divide-clause-err g c = rw (c.in-Divide.is) c.show_fen-in-Divide.ensures.err

pub returns-in-Lines-clause-ok : goal.returns-in-Lines-clause-ok
returns-in-Lines-clause-ok g c = rw (c.in-Lines.is) c.show_lines.ensures.ok

pub returns-in-Lines-clause-err : goal.returns-in-Lines-clause-err
returns-in-Lines-clause-err g c = rw (c.in-Lines.is) c.show_lines.ensures.err

pub returns-in-Solve-clause-ok : goal.returns-in-Solve-clause-ok
returns-in-Solve-clause-ok g c = rw (c.in-Solve.is) c.solve.ensures.ok

pub returns-in-Solve-clause-err : goal.returns-in-Solve-clause-err
returns-in-Solve-clause-err g c = rw (c.in-Solve.is) c.solve.ensures.err

pub returns-in-SolveJson-clause-ok : goal.returns-in-SolveJson-clause-ok
returns-in-SolveJson-clause-ok g c = rw (c.in-SolveJson.is) c.solve_json.ensures.ok

pub returns-in-SolveJson-clause-err : goal.returns-in-SolveJson-clause-err
returns-in-SolveJson-clause-err g c = rw (c.in-SolveJson.is) c.solve_json.ensures.err

pub returns-in-Verify-clause-ok : goal.returns-in-Verify-clause-ok
returns-in-Verify-clause-ok g c = rw (c.in-Verify.is) c.verify.ensures.ok

pub returns-in-Verify-clause-err : goal.returns-in-Verify-clause-err
returns-in-Verify-clause-err g c = rw (c.in-Verify.is) c.verify.ensures.err

pub returns-in-VerifyJson-clause-ok : goal.returns-in-VerifyJson-clause-ok
returns-in-VerifyJson-clause-ok g c = rw (c.in-VerifyJson.is) c.verify_json.ensures.ok

pub returns-in-VerifyJson-clause-err : goal.returns-in-VerifyJson-clause-err
returns-in-VerifyJson-clause-err g c = rw (c.in-VerifyJson.is) c.verify_json.ensures.err

pub returns-in-VerifyImported-clause-ok : goal.returns-in-VerifyImported-clause-ok
returns-in-VerifyImported-clause-ok g c = rw (c.in-VerifyImported.is) c.verify_imported.ensures.ok

pub returns-in-VerifyImported-clause-err : goal.returns-in-VerifyImported-clause-err
returns-in-VerifyImported-clause-err g c = rw (c.in-VerifyImported.is) c.verify_imported.ensures.err

pub returns-in-Tree-clause-ok : goal.returns-in-Tree-clause-ok
returns-in-Tree-clause-ok g c = rw (c.in-Tree.is) c.tree.ensures.ok

pub returns-in-Tree-clause-err : goal.returns-in-Tree-clause-err
returns-in-Tree-clause-err g c = rw (c.in-Tree.is) c.tree.ensures.err

pub returns-in-TreeJson-clause-ok : goal.returns-in-TreeJson-clause-ok
returns-in-TreeJson-clause-ok g c = rw (c.in-TreeJson.is) c.tree_json.ensures.ok

pub returns-in-TreeJson-clause-err : goal.returns-in-TreeJson-clause-err
returns-in-TreeJson-clause-err g c = rw (c.in-TreeJson.is) c.tree_json.ensures.err

pub returns-in-Sheet-clause-ok : goal.returns-in-Sheet-clause-ok
returns-in-Sheet-clause-ok g c = rw (c.in-Sheet.is) c.sheet.ensures.ok

pub returns-in-Sheet-clause-err : goal.returns-in-Sheet-clause-err
returns-in-Sheet-clause-err g c = rw (c.in-Sheet.is) c.sheet.ensures.err

pub returns-in-Import-clause-ok : goal.returns-in-Import-clause-ok
returns-in-Import-clause-ok g c = rw (c.in-Import.is) c.import_given.ensures.ok

pub returns-in-Import-clause-err : goal.returns-in-Import-clause-err
returns-in-Import-clause-err g c = rw (c.in-Import.is) c.import_given.ensures.err

pub returns-in-Replay-clause-ok : goal.returns-in-Replay-clause-ok
returns-in-Replay-clause-ok g c = rw (c.in-Replay.is) c.replay.ensures.ok

pub returns-in-Replay-clause-err : goal.returns-in-Replay-clause-err
returns-in-Replay-clause-err g c = rw (c.in-Replay.is) c.replay.ensures.err

pub returns-in-Explain-clause-ok : goal.returns-in-Explain-clause-ok
returns-in-Explain-clause-ok g c = rw (c.in-Explain.is) c.explain_given.ensures.ok

pub returns-in-Explain-clause-err : goal.returns-in-Explain-clause-err
returns-in-Explain-clause-err g c = rw (c.in-Explain.is) c.explain_given.ensures.err
