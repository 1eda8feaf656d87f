-- What an entry says of more and of fewer moves, and what stays true of the entries of a cache.
use Rattle.std.proofs.Common.{◌≡◌, ℕ, zero, suc, ◌+◌, ◌-◌, ◌<◌, ◌≤◌, true, false, List, Option, Some, None, refl}
use Rattle.std.proofs.Common.{take, sym, ◌∙◌, subst, inl, inr, arith, zero-add, suc-add, Result, Ok, Err, OnOk, OnErr}
use Rattle.std.specs.Option.{IfSome}
use Rattle.std.specs.Map.{lookup}
use Rattle.lru.specs.LruCache.{LruCache, lru_cache, promoted, put_entries}
use Rattle.lru.proofs.CallerLemmas.{Contains-lookup, Contains-promoted, Contains-put_entries, Contains-take}
use Rattle.chess_board.specs.Positions.{Setup}
use Rattle.chess_board.specs.Soundness.{IsSound}
use Rattle.chess_board.specs.Laws.{are_equal, EqualReads}
use Rattle.mate_search.specs.declared.memo_entries.Entry.{Entry}
use Rattle.mate_search.specs.Wins.{win, lost}
use Rattle.mate_search.specs.inside.MemoEntries.{IsTrueOf, AreTrue, IsTrueMemo}
use Rattle.mate_search.proofs.Room.{put_within, length-promoted}
use Rattle.std.proofs.lemmas.List.{length-take}
use Rattle.chess_moves.specs.inside.Listing.{legal_moves}
use Rattle.mate_search.specs.inside.Truth.{dist}
use Rattle.mate_search.proofs.Wins.{win_more, loses_weaker}
use Rattle.mate_search.proofs.Least.{none_dist}
use Rattle.mate_search.proofs.Playing.{all_among}

within_by : (more k : ℕ) (p : Setup) → win k p ≡ true → win (more + k) p ≡ true
within_by zero k p w = rw (zero-add k) w
within_by (suc more) k p w = rw (suc-add more k) (win_more (more + k) p (within_by more k p w))

-- A mate within k moves is one within n.
pub win_within_more : (k n : ℕ) (p : Setup) → k ≤ n → win k p ≡ true → win n p ≡ true
win_within_more k n p h w = let s : (n - k) + k ≡ n = omega arith in rw s at (within_by (n - k) k p w)

-- Where there is none within k moves, there is none within n.
pub no_win_within_fewer : (k n : ℕ) (p : Setup) → n ≤ k → win k p ≡ false → win n p ≡ false
no_win_within_fewer k n p h l = (elim (win n p) as (λ b. win n p ≡ b → b ≡ false) [
  | false ↦ λ t. refl
  | true ↦ λ t. let w = win_within_more n k p h t in cc
]) refl

-- Who is lost with k moves left to the attacker is lost with n.
pub lost_within_more : (k n : ℕ) (q : Setup) → k ≤ n → lost k q ≡ true → lost n q ≡ true
lost_within_more k n q h l = loses_weaker (win k) (win n) q (λ p. win_within_more k n p h) l

-- Who is not lost with k moves left is not lost with n.
pub not_lost_within_fewer : (k n : ℕ) (q : Setup) → n ≤ k → lost k q ≡ false → lost n q ≡ false
not_lost_within_fewer k n q h l = (elim (lost n q) as (λ b. lost n q ≡ b → b ≡ false) [
  | false ↦ λ t. refl
  | true ↦ λ t. let more = lost_within_more n k q h t in cc
]) refl

-- What is said of the least number of moves, where it was found.
pub least_found : (n : ℕ) (p : Setup) (least : Option ℕ) (k : ℕ) → least ≡ Some k →
    IfSome least (λ j. (0 < j) × (j ≤ n) × (win (j - 1) p ≡ false) × (win j p ≡ true)) →
    (0 < k) × (k ≤ n) × (win (k - 1) p ≡ false) × (win k p ≡ true)
least_found n p least k is said = subst (λ (o : Option ℕ). IfSome o (λ j. (0 < j) × (j ≤ n) × (win (j - 1) p ≡ false) × (win j p ≡ true))) is said

-- What a look-up finds is true of the position that was asked for.
pub found_true : EqualReads → (p : Setup) (es : List (Setup × Entry)) (v : Entry) → IsSound p → AreTrue es
    → lookup (are_equal p) es ≡ Some v → IsTrueOf p v
found_true equal p es v sound all h =
    let at = Contains-lookup (are_equal p) es v h in
    let there = all (at.0, v) at.1 in
    subst (λ (q : Setup). IsTrueOf q v) (sym ((equal p at.0 sound there.sound).0 at.2)) there

put_true : EqualReads → (c : LruCache Setup Entry) (p : Setup) (v : Entry) → AreTrue c.entries → IsTrueOf p v → AreTrue (put_entries are_equal c p v)
put_true equal c p v all h e m = elim (Contains-put_entries are_equal c p v e m) [
  | inl old ↦ all e old
  | inr put ↦ elim put.1 [
    | inl same ↦ subst (λ (w : Entry). IsTrueOf e.0 w) (sym put.0) (subst (λ (q : Setup). IsTrueOf q v) (sym same) h)
    | inr there ↦
        let sound : IsSound e.0 = (all (e.0, there.0) there.1).sound in
        let key : e.0 ≡ p = sym ((equal p e.0 h.sound sound).0 there.2) in
        subst (λ (w : Entry). IsTrueOf e.0 w) (sym put.0) (subst (λ (q : Setup). IsTrueOf q v) (sym key) h)
  ]
]

-- A put that is refused changes nothing, and one that is not leaves old entries and the new one, and the room.
pub kept_after : {A E : Type 0} → EqualReads → (r : Result A E) (old new : LruCache Setup Entry) (p : Setup) (v : Entry) (room waiting : ℕ)
    → OnOk r (new ≡ lru_cache (put_entries are_equal old p v) old.cap) → OnErr r (new ≡ old) → IsTrueMemo old.entries old.cap room waiting
    → IsTrueOf p v → IsTrueMemo new.entries new.cap room waiting
kept_after equal (Ok a) old new p v room waiting ok err h is =
    subst (λ (c : LruCache Setup Entry). IsTrueMemo c.entries c.cap room waiting) (sym ok)
    (record {
      each_true = put_true equal old p v h.each_true is;
      within = put_within are_equal old p v h.within h.some_room;
      some_room = h.some_room;
      in_room = h.in_room;
      whole = h.whole;
    })
kept_after equal (Err a) old new p v room waiting ok err h is =
    subst (λ (c : LruCache Setup Entry). IsTrueMemo c.entries c.cap room waiting) (sym err) h

-- A look-up moves an entry to the front.
pub kept_promoted : (old new : LruCache Setup Entry) (p : Setup) (room waiting : ℕ)
    → new ≡ lru_cache (promoted (are_equal p) old.entries) old.cap
    → IsTrueMemo old.entries old.cap room waiting → IsTrueMemo new.entries new.cap room waiting
kept_promoted old new p room waiting is h = subst (λ (c : LruCache Setup Entry). IsTrueMemo c.entries c.cap room waiting) (sym is) (record {
  each_true = λ e m. h.each_true e (Contains-promoted (are_equal p) old.entries e m);
  within = omega (arith, length-promoted (are_equal p) old.entries, h.within);
  some_room = h.some_room;
  in_room = h.in_room;
  whole = h.whole;
})

-- With another capacity within the room, the first entries stay, as many as that has.
pub kept_resized : (old new : LruCache Setup Entry) (most room before waiting : ℕ) → new ≡ lru_cache (take most old.entries) most
    → 1 ≤ most → most ≤ room → (waiting ≡ 0 → most ≡ room)
    → IsTrueMemo old.entries old.cap room before → IsTrueMemo new.entries new.cap room waiting
kept_resized old new most room before waiting is some within whole h =
    subst (λ (c : LruCache Setup Entry). IsTrueMemo c.entries c.cap room waiting) (sym is) (record {
      each_true = λ e m. h.each_true e (Contains-take most old.entries e m);
      within = omega (arith, length-take most old.entries);
      some_room = some;
      in_room = within;
      whole = whole;
    })

-- Where there is no mate within n moves, there is none to find.
pub none_found_within : (n : ℕ) (p : Setup) → win n p ≡ false → dist (legal_moves p) p n ≡ None
none_found_within n p none = none_dist (legal_moves p) p n (λ k l. all_among k p ∙ no_win_within_fewer n k p l none)
