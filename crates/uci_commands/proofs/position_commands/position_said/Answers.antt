use Rattle.std.proofs.Common.{ℕ, List, Vec, Global, map, subst}
use Rattle.std.specs.Borrow.{Bor}
use Rattle.chess_board.specs.Fens.{IsFault}
use Rattle.uci_commands.proofs.PositionsSaid.{leads, leads_nowhere, said_none, said_some}
use Rattle.uci_commands.proofs.position_commands.position_said.Goals as goal

abbrev items_of : Vec ℕ Global → List ℕ
items_of text = text.items

abbrev spelt_words : List (Bor (List ℕ)) → List (List ℕ)
spelt_words words = map (λ (s : Bor (List ℕ)). s.now) words

pub returns-in_default-clause-refused : goal.returns-in_default-clause-refused
returns-in_default-clause-refused c = said_none items_of _ _ c.in_ok-text.ensures c.in_default.is

pub returns-in-Err-clause-refused : goal.returns-in-Err-clause-refused
returns-in-Err-clause-refused c = (
  c.in-Some.text.items,
  said_some items_of _ _ _ c.in_ok-text.ensures c.in-Some.is,
  subst (λ text. IsFault text c.in-Err.fault) c.as_slice.ensures.value c.in-Err.ensures.refused,
)

pub returns-in-Ok-play-clause-said : goal.returns-in-Ok-play-clause-said
returns-in-Ok-play-clause-said c =
    leads (spelt_words c.args.words.now) (spelt_words c.behind.result.now) c.in-Some.text.items c.as_slice.result.now c.in-Ok.first c.in-Ok-play.fen
    c.read_fen.result c.play.result (said_some items_of _ _ _ c.in_ok-text.ensures c.in-Some.is)
    c.as_slice.ensures.value c.read_fen.ensures.exact c.in-Ok.is c.behind.ensures c.play.ensures c.in-Ok-play.is

pub returns-clause-refused : goal.returns-clause-refused
returns-clause-refused c =
    leads_nowhere (spelt_words c.args.words.now) (spelt_words c.behind.result.now) c.in-Some.text.items c.as_slice.result.now c.in-Ok.first
    c.in-Err-play.number c.read_fen.result c.play.result (said_some items_of _ _ _ c.in_ok-text.ensures c.in-Some.is)
    c.as_slice.ensures.value c.read_fen.ensures.exact c.in-Ok.is c.behind.ensures c.play.ensures c.in-Err-play.is
