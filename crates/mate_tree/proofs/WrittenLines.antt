-- Lines written one by one.
use Rattle.std.proofs.Common.{◌≡◌, ◌∙◌, ℕ, suc, ◌+◌, ◌<◌, ◌≤◌, ◌==◌, Bool, true, false, ◌&&◌, List, [], ◌∷◌, ◌++◌, Option, Some}
use Rattle.std.proofs.Common.{None, length, take, get_or, refl, sym, ap, subst, arith, append_assoc, append-nil}
use Rattle.std.specs.Prelude.{cond, ⊤}
use Rattle.std.specs.List.{flat_map}
use Rattle.std.proofs.lemmas.Bool.Decides.{nat_tests}
use Rattle.std.proofs.lemmas.List.{flat_map_more, take_all, take_more}
use Rattle.std.proofs.lemmas.Grind.{flat_map-append}
use Rattle.byte_streams.specs.declared.stops.Stop.{Stop}
use Rattle.byte_streams.specs.Stops.{AppendsPart, is_of_output}
use Rattle.mate_tree.specs.Layouts.{figured, figurine, lettered, unindented}
use Rattle.mate_tree.specs.declared.forms.Pieces.{Pieces}
use Rattle.mate_tree.specs.declared.forms.Pieces.TheVariants as pieces
use Rattle.mate_tree.specs.inside.Sheets.{Goes, GoesBy, Room, SheetValue, Takes, behind, ending}
use Rattle.mate_tree.specs.inside.Sheets.{mark, next, part, past, said, shown, stays_fresh}
use Rattle.mate_tree.proofs.Steps.{by_as, by_none, by_on}

-- ---- texts

pub takes_more : {a b c : Option (List ℕ)} {s t u : SheetValue} {x y : List ℕ} → Takes a s b t x → Takes b t c u y → Takes a s c u (x ++ y)
takes_more {a} {b} {c} {s} {t} {u} {x} {y} first second = record {
  goes = by_on s.stop t.stop u.stop a b c s.pending t.pending u.pending x y y (t.room ≡ s.room) (u.room ≡ t.room) (u.room ≡ s.room)
      (λ same. (refl, λ later. later ∙ same)) first.goes second.goes;
}

pub takes_on : {a b c : Option (List ℕ)} {s s' t u : SheetValue} {x y : List ℕ} → s ≡ s' → Takes a s b t x → Takes b t c u y
    → Takes a s' c u (x ++ y)
takes_on {a} {b} {c} {s} {s'} {t} {u} {x} {y} same first second = subst (λ v. Takes a v c u (x ++ y)) same (takes_more first second)

-- Where an end is put on the sheet: all is written, or why it is not is known.
pub ends_whole : {a b : Option (List ℕ)} {s t : SheetValue} {x : List ℕ} → Takes a s b t x → t.stop ≡ None → t.pending ≡ []
    → GoesBy s.stop None a s.pending b [] x ⊤
ends_whole {a} {b} {s} {t} {x} takes whole empty =
    by_as s.stop None a b s.pending [] x x (t.room ≡ s.room) ⊤ refl (λ same. tt)
    (subst (λ i. GoesBy s.stop i a s.pending b [] x (t.room ≡ s.room)) whole
    (subst (λ q. GoesBy s.stop t.stop a s.pending b q x (t.room ≡ s.room)) empty takes.goes))

pub ends_broken : {a b : Option (List ℕ)} {s t : SheetValue} {x : List ℕ} (why : Stop) → Takes a s b t x → t.stop ≡ Some why
    → GoesBy s.stop (Some why) a s.pending b [] x ⊤
ends_broken {a} {b} {s} {t} {x} why takes broken =
    by_stop s.stop (subst (λ i. GoesBy s.stop i a s.pending b t.pending x (t.room ≡ s.room)) broken takes.goes)
  where
    by_stop : (i : Option Stop) → GoesBy i (Some why) a s.pending b t.pending x (t.room ≡ s.room) → GoesBy i (Some why) a s.pending b [] x ⊤
    by_stop None goes = goes
    by_stop (Some i) goes = goes

-- The first of what is pending was to be written, and that broke off.
pub breaks_in_front : {a b : Option (List ℕ)} {s t : SheetValue} (why : Stop) (front back : List ℕ) → s.stop ≡ None → s.pending ≡ front ++ back
    → t.stop ≡ Some why → is_of_output why ≡ true → AppendsPart a b front → Takes a s b t []
breaks_in_front {a} {b} {s} {t} why front back going is broken output (part, rest, split, appends) = record {
  goes = subst (λ i. GoesBy i t.stop a s.pending b t.pending [] (t.room ≡ s.room)) (sym going)
      (subst (λ j. GoesBy None j a s.pending b t.pending [] (t.room ≡ s.room)) (sym broken) (
        output,
        (part, rest ++ back, append-nil s.pending ∙ is ∙ ap (λ l. l ++ back) split ∙ append_assoc part rest back, appends),
      ));
}

-- the same by another word for the text
pub takes_as : {a b : Option (List ℕ)} {s t : SheetValue} {x y : List ℕ} → x ≡ y → Takes a s b t x → Takes a s b t y
takes_as {a} {b} {s} {t} {x} {y} same takes = subst (Takes a s b t) same takes

pub takes_none : (a : Option (List ℕ)) (s : SheetValue) → Takes a s a s []
takes_none a s = record { goes = by_none s.stop a s.pending (s.room ≡ s.room) refl }

-- nothing behind a text
pub takes_last : {a b c : Option (List ℕ)} {s t u : SheetValue} {x : List ℕ} → Takes a s b t x → Takes b t c u [] → Takes a s c u x
takes_last {a} {b} {c} {s} {t} {u} {x} first second = takes_as (append-nil x) (takes_more first second)

-- ---- parts of a line

-- a room by its fields
abbrev room_of : Option ℕ → Bool → Bool → Pieces → Bool → Bool → Room
room_of left cut column shows begun fresh = record { left = left; cut = cut; column = column; pieces = shows; begun = begun; fresh = fresh }

pub one_more : (n : ℕ) → (suc n == 0) ≡ false
one_more n = grind (arith, nat_tests)

length_none : (xs ys : List ℕ) → ((length xs == 0) && (length ys == 0)) ≡ (length (xs ++ ys) == 0)
length_none [] ys = refl
length_none (x ∷ xs) ys = rw (one_more (length xs), one_more (length (xs ++ ys))) refl

unindented_append : (xs ys : List ℕ) → unindented xs ++ part (length (unindented xs) == 0) ys ≡ unindented (xs ++ ys)
unindented_append [] ys = refl
unindented_append (x ∷ xs) ys = by (x == 32) (unindented_append xs ys)
  where
    by : (space : Bool) → unindented xs ++ part (length (unindented xs) == 0) ys ≡ unindented (xs ++ ys)
        → cond space (unindented xs) (x ∷ xs) ++ part (length (cond space (unindented xs) (x ∷ xs)) == 0) ys
        ≡ cond space (unindented (xs ++ ys)) (x ∷ (xs ++ ys))
    by true so = so
    by false so = rw (one_more (length xs)) refl

-- a part behind another one
part_append : (fresh : Bool) (xs ys : List ℕ) → part fresh xs ++ part (stays_fresh fresh xs) ys ≡ part fresh (xs ++ ys)
part_append true xs ys = unindented_append xs ys
part_append false xs ys = refl

fresh_append : (fresh : Bool) (xs ys : List ℕ) → stays_fresh (stays_fresh fresh xs) ys ≡ stays_fresh fresh (xs ++ ys)
fresh_append true xs ys =
    length_none (unindented xs) (part (length (unindented xs) == 0) ys) ∙ ap (λ l. length l == 0) (unindented_append xs ys)
fresh_append false xs ys = refl

figured_append : (shows : Pieces) (xs ys : List ℕ) → figured shows xs ++ figured shows ys ≡ figured shows (xs ++ ys)
figured_append pieces.San xs ys = refl
figured_append pieces.Figurines xs ys = sym (flat_map-append figurine xs ys)
figured_append (pieces.Letters l) xs ys = sym (flat_map-append (lettered l) xs ys)

shown_none_at : (left : Option ℕ) (cut column : Bool) (shows : Pieces) (begun fresh : Bool) → [] ≡ shown (room_of left cut column shows begun fresh) []
shown_none_at left true column shows begun fresh = refl
shown_none_at left false column pieces.San begun true = refl
shown_none_at left false column pieces.San begun false = refl
shown_none_at left false column pieces.Figurines begun true = refl
shown_none_at left false column pieces.Figurines begun false = refl
shown_none_at left false column (pieces.Letters l) begun true = refl
shown_none_at left false column (pieces.Letters l) begun false = refl

pub shown_none : (r : Room) → [] ≡ shown r []
shown_none r = shown_none_at r.left r.cut r.column r.pieces r.begun r.fresh

past_none_at : (left : Option ℕ) (cut column : Bool) (shows : Pieces) (begun fresh : Bool)
    → room_of left cut column shows begun fresh ≡ past (room_of left cut column shows begun fresh) []
past_none_at left true column shows begun fresh = refl
past_none_at left false column shows begun true = refl
past_none_at left false column shows begun false = refl

pub past_none : (r : Room) → r ≡ past r []
past_none r = past_none_at r.left r.cut r.column r.pieces r.begun r.fresh

shown_append_at : (left : Option ℕ) (cut column : Bool) (shows : Pieces) (begun fresh : Bool) (xs ys : List ℕ)
    → shown (room_of left cut column shows begun fresh) xs ++ shown (past (room_of left cut column shows begun fresh) xs) ys
    ≡ shown (room_of left cut column shows begun fresh) (xs ++ ys)
shown_append_at left true column shows begun fresh xs ys = refl
shown_append_at left false column shows begun fresh xs ys =
    figured_append shows (part fresh xs) (part (stays_fresh fresh xs) ys) ∙ ap (figured shows) (part_append fresh xs ys)

pub shown_append : (r : Room) (xs ys : List ℕ) → shown r xs ++ shown (past r xs) ys ≡ shown r (xs ++ ys)
shown_append r xs ys = shown_append_at r.left r.cut r.column r.pieces r.begun r.fresh xs ys

past_append_at : (left : Option ℕ) (cut column : Bool) (shows : Pieces) (begun fresh : Bool) (xs ys : List ℕ)
    → past (past (room_of left cut column shows begun fresh) xs) ys ≡ past (room_of left cut column shows begun fresh) (xs ++ ys)
past_append_at left true column shows begun fresh xs ys = refl
past_append_at left false column shows begun fresh xs ys = ap (room_of left false column shows begun) (fresh_append fresh xs ys)

pub past_append : (r : Room) (xs ys : List ℕ) → past (past r xs) ys ≡ past r (xs ++ ys)
past_append r xs ys = past_append_at r.left r.cut r.column r.pieces r.begun r.fresh xs ys

past_open_at : (left : Option ℕ) (cut column : Bool) (shows : Pieces) (begun before fresh : Bool) (text : List ℕ) → cut ≡ false → fresh ≡ stays_fresh before text
    → room_of left cut column shows begun fresh ≡ past (room_of left cut column shows begun before) text
past_open_at left true column shows begun before fresh text cut stays = cc
past_open_at left false column shows begun before fresh text cut stays = ap (room_of left false column shows begun) stays

past_open : (r : Room) (fresh : Bool) (text : List ℕ) → r.cut ≡ false → fresh ≡ stays_fresh r.fresh text → record r { fresh = fresh } ≡ past r text
past_open r fresh text cut stays = past_open_at r.left r.cut r.column r.pieces r.begun r.fresh fresh text cut stays

shown_open : (r : Room) (shows text : List ℕ) → r.cut ≡ false → shows ≡ part r.fresh text → figured r.pieces shows ≡ shown r text
shown_open r shows text cut is = rw cut (ap (figured r.pieces) is)

past_cut : (r : Room) (x : List ℕ) → r.cut ≡ true → past r x ≡ r
past_cut r x cut = rw cut refl

shown_cut : (r : Room) (x : List ℕ) → r.cut ≡ true → shown r x ≡ []
shown_cut r x cut = rw cut refl

-- A part is written, where what is shown of it is.
pub says_part : {a b : Option (List ℕ)} {t v : SheetValue} {shows : List ℕ} (s : SheetValue) (text : List ℕ) (none : Bool) → s.room.cut ≡ false
    → shows ≡ part s.room.fresh text → none ≡ (length shows == 0) → v ≡ record s { room = record s.room { fresh = s.room.fresh && none } }
    → Takes a v b t (figured v.room.pieces shows) → Goes a s b t (shown s.room text) (past s.room text)
says_part {a} {b} {t} {v} {shows} s text none cut is nothing passed takes =
    let fresh = s.room.fresh && none in
    let stays : fresh ≡ stays_fresh s.room.fresh text =
    ap (λ n. s.room.fresh && n) (nothing ∙ ap (λ l. length l == 0) is) in
    let own = subst (λ w. Takes a w b t (figured w.room.pieces shows)) passed takes in
    by_as s.stop t.stop a b s.pending t.pending (figured s.room.pieces shows) (shown s.room text)
    (t.room ≡ record s.room { fresh = fresh }) (t.room ≡ past s.room text)
    (shown_open s.room shows text cut is) (λ same. same ∙ past_open s.room fresh text cut stays) own.goes

-- Nothing is, where a line was left out.
pub says_cut : (a : Option (List ℕ)) (s : SheetValue) (text : List ℕ) → s.room.cut ≡ true → Goes a s a s (shown s.room text) (past s.room text)
says_cut a s text cut =
    by_as s.stop s.stop a a s.pending s.pending [] (shown s.room text) (s.room ≡ s.room) (s.room ≡ past s.room text)
    (sym (shown_cut s.room text cut)) (λ same. sym (past_cut s.room text cut)) (by_none s.stop a s.pending (s.room ≡ s.room) refl)

pub figured_by : (shows own : Pieces) (x : List ℕ) → own ≡ shows → figured own x ≡ figured shows x
figured_by shows own x is = rw is refl

-- A line is begun, where what stands before it is written, and it is counted.
pub begins_by : {a b : Option (List ℕ)} {s t u : SheetValue} {text : List ℕ} → text ≡ mark s.room → Takes a s b t text
    → u ≡ record t { room = next t.room } → Goes a s b u (mark s.room) (next s.room)
begins_by {a} {b} {s} {t} {u} {text} is takes counted =
    subst (λ v. Goes a s b v (mark s.room) (next s.room)) (sym counted)
    (by_as s.stop t.stop a b s.pending t.pending text (mark s.room) (t.room ≡ s.room) (next t.room ≡ next s.room)
    is (λ same. ap next same) takes.goes)

pub ends_by : {a b : Option (List ℕ)} {s t : SheetValue} {text : List ℕ} → text ≡ ending s.room → Takes a s b t text
    → Goes a s b t (ending s.room) s.room
ends_by {a} {b} {s} {t} {text} is takes =
    by_as s.stop t.stop a b s.pending t.pending text (ending s.room) (t.room ≡ s.room) (t.room ≡ s.room) is (λ same. same) takes.goes

-- texts of bytes, one after the other
pub bytes_more : {a b c : Option (List ℕ)} {s t u : SheetValue} {x : List ℕ} (f : ℕ → List ℕ) (xs : List ℕ) (i : ℕ) → i < length xs
    → Takes a s b t (flat_map f (take i xs)) → Takes b t c u x → x ≡ f (get_or xs i 0) → Takes a s c u (flat_map f (take (i + 1) xs))
bytes_more {a} {b} {c} {s} {t} {u} {x} f xs i here first second is =
    takes_as (ap (λ l. flat_map f (take i xs) ++ l) is ∙ flat_map_more f [] (take i xs) (get_or xs i 0)
    ∙ ap (flat_map f) (sym (take_more xs i 0 here))) (takes_more first second)

pub bytes_all : {a b : Option (List ℕ)} {s t : SheetValue} (f : ℕ → List ℕ) (xs : List ℕ) (i : ℕ) → length xs ≤ i
    → Takes a s b t (flat_map f (take i xs)) → Takes a s b t (flat_map f xs)
bytes_all f xs i past takes = takes_as (ap (flat_map f) (take_all i xs past)) takes

-- ---- lines

pub said_one : (r : Room) (l : List ℕ) → mark r ++ (shown (next r) l ++ ending (past (next r) l)) ≡ said r (l ∷ [])
unfolding said
said_one r l = sym (append-nil (mark r ++ (shown (next r) l ++ ending (past (next r) l))))

pub behind_one : (r : Room) (l : List ℕ) → past (next r) l ≡ behind r (l ∷ [])
unfolding behind
behind_one r l = refl

pub nothing_said : (r : Room) → [] ≡ said r []
unfolding said
nothing_said r = refl

pub nothing_behind : (r : Room) → r ≡ behind r []
unfolding behind
nothing_behind r = refl

pub said_append : (r : Room) (xs ys : List (List ℕ)) → said r xs ++ said (behind r xs) ys ≡ said r (xs ++ ys)
unfolding said behind
said_append r [] ys = refl
said_append r (x ∷ xs) ys =
    let first = mark r ++ (shown (next r) x ++ ending (past (next r) x)) in
    append_assoc first (said (past (next r) x) xs) (said (behind (past (next r) x) xs) ys)
    ∙ ap (λ t. first ++ t) (said_append (past (next r) x) xs ys)

pub behind_append : (r : Room) (xs ys : List (List ℕ)) → behind (behind r xs) ys ≡ behind r (xs ++ ys)
unfolding behind
behind_append r [] ys = refl
behind_append r (x ∷ xs) ys = behind_append (past (next r) x) xs ys

-- ---- once a line was left out

next_cut : (r : Room) → r.cut ≡ true → next r ≡ r
next_cut r cut = rw cut refl

behind_line : (r : Room) (x : List ℕ) → r.cut ≡ true → past (next r) x ≡ r
behind_line r x cut = ap (λ q. past q x) (next_cut r cut) ∙ past_cut r x cut

mark_cut : (r : Room) → r.cut ≡ true → mark r ≡ []
mark_cut r cut = rw cut refl

ending_cut : (r : Room) → r.cut ≡ true → ending r ≡ []
ending_cut r cut = rw cut refl

pub said_cut : (r : Room) (ls : List (List ℕ)) → r.cut ≡ true → said r ls ≡ []
unfolding said
said_cut r [] cut = refl
said_cut r (l ∷ ls) cut =
    ap (λ m. m ++ (shown (next r) l ++ ending (past (next r) l)) ++ said (past (next r) l) ls) (mark_cut r cut)
    ∙ ap (λ q. (shown (next r) l ++ ending q) ++ said q ls) (behind_line r l cut)
    ∙ ap (λ q. (shown q l ++ ending r) ++ said r ls) (next_cut r cut)
    ∙ ap (λ m. (m ++ ending r) ++ said r ls) (shown_cut r l cut) ∙ ap (λ m. m ++ said r ls) (ending_cut r cut) ∙ said_cut r ls cut

pub behind_cut : (r : Room) (ls : List (List ℕ)) → r.cut ≡ true → behind r ls ≡ r
unfolding behind
behind_cut r [] cut = refl
behind_cut r (l ∷ ls) cut = ap (λ q. behind q ls) (behind_line r l cut) ∙ behind_cut r ls cut
