-- The ends of a room that was just opened.
use Rattle.std.specs.Prelude.{◌≡◌, ℕ, ◌+◌, List, [], ◌∷◌}
use Rattle.room_ends.specs.Windows.{letters_sent, collected, places_known, places_of, number_of, default_of}
use Rattle.room_ends.specs.WindowRings.{AreEnds, places_free}
use Rattle.room_ends.specs.Benches.{got, given, bench_ring, TakesFrom, AreEnds as AreBackEnds}
use Rattle.room_ends.specs.declared.order_producer.OrderProducer.{OrderProducer}
use Rattle.room_ends.specs.declared.windows.Window.{Window}
use Rattle.room_ends.specs.declared.window_ring_line.Line.{Line}
use Rattle.room_ends.specs.declared.benches.Bench.{Bench}
use Rattle.room_ends.specs.declared.back_receiver.BackReceiver.{BackReceiver}

-- A window of this number, by which nothing went yet, and the keeper's ends of its two rings, each with so many places, all free.
pub record IsFresh (ring bound n : ℕ) (w : Window) (l : Line) : Type 0 where
  pub number : number_of w ≡ n
  pub default : default_of w ≡ bound
  pub sent : letters_sent w ≡ []
  pub collected : collected w ≡ []
  pub places : places_of w ≡ ring
  pub free : places_known w ≡ ring
  pub answers : places_free l ≡ ring
  pub ends : AreEnds w l

-- Windows numbered from this number on, and the keeper's ends of each.
abbrev pub AreOpened : ℕ → ℕ → ℕ → List Window → List Line → Type 0
AreOpened ring bound n [] [] = Unit {0}
AreOpened ring bound n (w ∷ ws) (l ∷ ls) = IsFresh ring bound n w l × AreOpened ring bound (n + 1) ws ls
AreOpened ring bound n _ _ = ⊥

-- A bench that got and gave nothing yet, and takes the producer's orders, and the keeper's end of its back ring, which has so many
-- places.
pub record IsIdle (producer : OrderProducer) (ring : ℕ) (bench : Bench) (receiver : BackReceiver) : Type 0 where
  pub takes : TakesFrom producer bench
  pub got : got bench ≡ []
  pub given : given bench ≡ []
  pub places : bench_ring bench ≡ ring
  pub ends : AreBackEnds bench receiver

abbrev pub AreIdle : OrderProducer → ℕ → List Bench → List BackReceiver → Type 0
AreIdle producer ring [] [] = Unit {0}
AreIdle producer ring (b ∷ bs) (e ∷ es) = IsIdle producer ring b e × AreIdle producer ring bs es
AreIdle producer ring _ _ = ⊥
