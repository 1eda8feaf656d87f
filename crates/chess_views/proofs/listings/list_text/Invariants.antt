use Rattle.std.proofs.Common.{◌≡◌, flat_map, take}
use Rattle.chess_views.specs.Listings.{move_line}
use Rattle.chess_views.proofs.listings.list_text.Given as goal

abbrev pub invariant-loop-m : goal.invariant-loop-m
invariant-loop-m l = l.text.items ≡ flat_map (move_line l.columns l.fen) (take l.m-index l.m-items)
