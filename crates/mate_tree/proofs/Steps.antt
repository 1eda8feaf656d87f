-- What is written in one step after the other.
use Rattle.std.proofs.Common.{◌≡◌, ◌∙◌, Bool, true, false, ℕ, List, [], ◌++◌, Option, Some, None, refl, sym, ap, subst, append_assoc, append-nil}
use Rattle.std.specs.Prelude.{is_some}
use Rattle.std.specs.Io.KnownBytes.{Appends}
use Rattle.std.proofs.KnownBytes.{Appends-kept, Appends-nil, Appends-trans, Keeps-refl, Keeps-trans}
use Rattle.byte_streams.specs.declared.stops.Stop.{Stop}
use Rattle.byte_streams.specs.Stops.{AppendsPart, is_of_output}
use Rattle.mate_tree.specs.inside.Sheets.{GoesBy, closed_by}

split_on : (p x y gone q more o : List ℕ) → p ++ x ≡ gone ++ q → q ++ y ≡ more ++ o → p ++ (x ++ y) ≡ (gone ++ more) ++ o
split_on p x y gone q more o first second =
    sym (append_assoc p x y) ∙ ap (λ l. l ++ y) first ∙ append_assoc gone q y ∙ ap (λ l. gone ++ l) second ∙ sym (append_assoc gone more o)

part_on : (p x y part rest : List ℕ) → p ++ x ≡ part ++ rest → p ++ (x ++ y) ≡ part ++ (rest ++ y)
part_on p x y part rest is = sym (append_assoc p x y) ∙ ap (λ l. l ++ y) is ∙ append_assoc part rest y

-- A text, and another that goes by the room that the first leaves.
pub by_on : (i j k : Option Stop) (old mid new : Option (List ℕ)) (p q o x y z : List ℕ) (A B C : Type 0) → (A → (y ≡ z) × (B → C))
    → GoesBy i j old p mid q x A → GoesBy j k mid q new o y B → GoesBy i k old p new o (x ++ z) C
by_on None None None old mid new p q o x y z A B C turn (a, gone, is, on) (b, more, is', on') =
    let (same, next) = turn a in (
      next b,
      gone ++ more,
      split_on p x z gone q more o is (subst (λ l. q ++ l ≡ more ++ o) same is'),
      Appends-trans old mid new gone more on on',
    )
by_on None None (Some k) old mid new p q o x y z A B C turn (a, gone, is, on) (broken, (part, rest, is', on')) =
    let (same, next) = turn a in (
      broken,
      (
        gone ++ part,
        rest,
        split_on p x z gone q part rest is (subst (λ l. q ++ l ≡ part ++ rest) same is'),
        Appends-trans old mid new gone part on on',
      ),
    )
by_on None (Some j) None old mid new p q o x y z A B C turn first second = absurd second
by_on None (Some j) (Some k) old mid new p q o x y z A B C turn (broken, (part, rest, is, on)) (same, keeps) =
    (subst (λ s. is_of_output s ≡ true) (sym same) broken, (part, rest ++ z, part_on p x z part rest is, Appends-kept old mid new part on keeps))
by_on (Some i) None k old mid new p q o x y z A B C turn first second = absurd first
by_on (Some i) (Some j) None old mid new p q o x y z A B C turn first second = absurd second
by_on (Some i) (Some j) (Some k) old mid new p q o x y z A B C turn (same, keeps) (same', keeps') =
    (same' ∙ same, Keeps-trans old mid new keeps keeps')

-- the same by another word for the text and the room
pub by_as : (i j : Option Stop) (old new : Option (List ℕ)) (p q x y : List ℕ) (A B : Type 0) → x ≡ y → (A → B)
    → GoesBy i j old p new q x A → GoesBy i j old p new q y B
by_as None None old new p q x y A B same next (a, gone, is, on) = (next a, gone, ap (λ l. p ++ l) (sym same) ∙ is, on)
by_as None (Some j) old new p q x y A B same next (broken, (part, rest, is, on)) = (broken, (part, rest, ap (λ l. p ++ l) (sym same) ∙ is, on))
by_as (Some i) None old new p q x y A B same next never = absurd never
by_as (Some i) (Some j) old new p q x y A B same next stays = stays

-- nothing
pub by_none : (i : Option Stop) (old : Option (List ℕ)) (p : List ℕ) (A : Type 0) → A → GoesBy i i old p old p [] A
by_none None old p A a = (a, [], append-nil p, Appends-nil old)
by_none (Some i) old p A a = (refl, Keeps-refl old)

-- Nothing more comes where a line was left out or writing stopped.
pub by_closed : (i j : Option Stop) (cut : Bool) (old new : Option (List ℕ)) (p q x y : List ℕ) (A B : Type 0) → closed_by j cut ≡ true
    → (A → cut ≡ true → (y ≡ []) × B) → GoesBy i j old p new q x A → GoesBy i j old p new q (x ++ y) B
by_closed None None cut old new p q x y A B closed none (a, gone, is, on) =
    let (nothing, next) = none a closed in
    (next, gone, ap (λ l. p ++ l) (ap (λ l. x ++ l) nothing ∙ append-nil x) ∙ is, on)
by_closed None (Some j) cut old new p q x y A B closed none (broken, (part, rest, is, on)) =
    (broken, (part, rest ++ y, part_on p x y part rest is, on))
by_closed (Some i) None cut old new p q x y A B closed none never = absurd never
by_closed (Some i) (Some j) cut old new p q x y A B closed none stays = stays

-- ---- one step

pub stays_stopped : (i : Option Stop) (old : Option (List ℕ)) (p x : List ℕ) (A : Type 0) → is_some i ≡ true → GoesBy i i old p old p x A
stays_stopped None old p x A some = cc
stays_stopped (Some i) old p x A some = (refl, Keeps-refl old)

pub is_pending : (i : Option Stop) (old : Option (List ℕ)) (p q x : List ℕ) (A : Type 0) → is_some i ≡ false → A → q ≡ p ++ x
    → GoesBy i i old p old q x A
is_pending None old p q x A none a is = (a, [], sym is, Appends-nil old)
is_pending (Some i) old p q x A none a is = cc

pub is_flushed : (i : Option Stop) (old new : Option (List ℕ)) (p q : List ℕ) (A : Type 0) → is_some i ≡ false → A → q ≡ []
    → Appends old new p → GoesBy i i old p new q [] A
is_flushed None old new p q A none a is on = (a, p, ap (λ l. p ++ l) (sym is), on)
is_flushed (Some i) old new p q A none a is on = cc

pub breaks_flushing : (i : Option Stop) (s : Stop) (old new : Option (List ℕ)) (p q : List ℕ) (A : Type 0) → is_some i ≡ false
    → is_of_output s ≡ true → AppendsPart old new p → GoesBy i (Some s) old p new q [] A
breaks_flushing None s old new p q A none broken (part, rest, is, on) = (broken, (part, rest, append-nil p ∙ is, on))
breaks_flushing (Some i) s old new p q A none broken on = cc

pub is_put : (i : Option Stop) (old new : Option (List ℕ)) (p x : List ℕ) (A : Type 0) → is_some i ≡ false → (i ≡ None → p ≡ []) → A
    → Appends old new x → GoesBy i i old p new p x A
is_put None old new p x A none empty a on =
    let nothing = empty refl in
    (a, x, ap (λ l. l ++ x) nothing ∙ sym (append-nil x) ∙ ap (λ l. x ++ l) (sym nothing), on)
is_put (Some i) old new p x A none empty a on = cc

pub breaks_putting : (i : Option Stop) (s : Stop) (old new : Option (List ℕ)) (p q x : List ℕ) (A : Type 0) → is_some i ≡ false → (i ≡ None → p ≡ [])
    → is_of_output s ≡ true → AppendsPart old new x → GoesBy i (Some s) old p new q x A
breaks_putting None s old new p q x A none empty broken (part, rest, is, on) = (broken, (part, rest, ap (λ l. l ++ x) (empty refl) ∙ is, on))
breaks_putting (Some i) s old new p q x A none empty broken on = cc
