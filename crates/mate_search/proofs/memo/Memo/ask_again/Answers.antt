use Rattle.std.proofs.Common.{◌≡◌, ℕ, length, refl, ap, ◌∙◌, arith}
use Rattle.std.proofs.lemmas.List.{take_all}
use Rattle.chess_board.specs.Positions.{Setup}
use Rattle.lru.specs.LruCache.{LruCache}
use Rattle.mate_search.specs.declared.memo_entries.Entry.{Entry}
use Rattle.mate_search.specs.Memos.{MemoValue}
use Rattle.mate_search.proofs.Known.{kept_resized}
use Rattle.mate_search.proofs.memo.Memo.ask_again.Goals as goal

view_same : (a b room : ℕ) → a ≡ b → ◌≡◌ {A = MemoValue} (record { kept = a; room = room }) (record { kept = b; room = room })
view_same a b room e = rw e refl

pub invariant_of-self : goal.invariant_of-self
invariant_of-self c = kept_resized c.self.inside.cache c.resize.new.self c.in-Some.room.value c.self.inside.room c.self.inside.waiting
    0 c.resize.ensures (omega (arith, c.in-Some.room.ok)) (omega (arith, c.in-Some.ensures)) (λ _. c.in-Some.ensures) c.self.invariant

pub returns-in-Some : goal.returns-in-Some
returns-in-Some c =
    let kept = ap (λ (cache : LruCache Setup Entry). length cache.entries) c.resize.ensures
    ∙ ap length (take_all c.in-Some.room.value c.self.inside.cache.entries
    (omega (arith, c.in-Some.ensures, c.self.invariant.within, c.self.invariant.in_room))) in
    view_same (length c.resize.new.self.entries) (length c.self.inside.cache.entries) c.self.inside.room kept ∙ c.self.view_is
