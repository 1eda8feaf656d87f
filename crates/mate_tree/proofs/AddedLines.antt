-- What a writer adds, step by step.
use Rattle.std.proofs.Common.{◌≡◌, ◌∙◌, ℕ, ◌+◌, ◌<◌, ◌≤◌, Bool, true, false, ◌||◌, List, [], ◌∷◌, ◌++◌, Option, length, take, drop, get_or, refl, sym}
use Rattle.std.proofs.Common.{ap, subst, take-append-drop}
use Rattle.std.specs.List.{flat_map}
use Rattle.std.proofs.lemmas.List.{flat_map_more, take_all, take_more}
use Rattle.std.proofs.lemmas.Grind.{flat_map-append}
use Rattle.mate_search.specs.Memos.{MemoValue}
use Rattle.mate_tree.specs.SetPlay.{headed}
use Rattle.mate_tree.specs.declared.writers.TreeWriter.{TreeWriter}
use Rattle.mate_tree.specs.inside.Sheets.{Room, behind, ending, headed_on, is_closed, is_some_line, name_lines, past, said, shown}
use Rattle.mate_tree.specs.inside.Writers.{Adds, AddsText, BeginsLine, Brings, EndsLine, Stays}
use Rattle.mate_tree.proofs.Steps.{by_closed, by_none, by_on}
use Rattle.mate_tree.proofs.WrittenLines.{behind_append, behind_cut, behind_one, nothing_behind, nothing_said, past_append, past_none, said_append}
use Rattle.mate_tree.proofs.WrittenLines.{said_cut, said_one, shown_append, shown_none}

module _ {D : Type 0} where
  stays_none : (s : TreeWriter D) → Stays s s
  stays_none s = record { room = refl; memo = refl; out = refl }

  stays_on : {s t u : TreeWriter D} → Stays s t → Stays t u → Stays s u
  stays_on first second = record { room = second.room ∙ first.room; memo = second.memo ∙ first.memo; out = second.out ∙ first.out }

  -- a writer whose memo was asked
  abbrev pub asked : TreeWriter D → MemoValue → TreeWriter D
  asked s m = record s { memo = record s.memo { now = m } }

  stays_asked : {t : TreeWriter D} (s : TreeWriter D) (m : MemoValue) → m.room ≡ s.memo.now.room → Stays (asked s m) t → Stays s t
  stays_asked s m same stays = record { room = stays.room ∙ same; memo = stays.memo; out = stays.out }

module _ {D : Type 0} {contents : D → Option (List ℕ)} where
  -- ---- texts

  brings_none : (s : TreeWriter D) → Brings contents s s [] s.sheet.room
  brings_none s = record {
    goes = by_none s.sheet.stop (contents s.out.now) s.sheet.pending (s.sheet.room ≡ s.sheet.room) refl;
    stays = stays_none s;
  }

  -- the same by another word for the text and the room
  brings_as : {s t : TreeWriter D} {x y : List ℕ} {r q : Room} → x ≡ y → r ≡ q → Brings contents s t x r → Brings contents s t y q
  brings_as {s} {t} {x} {y} {r} {q} same room brings = subst (Brings contents s t y) room (subst (λ z. Brings contents s t z r) same brings)

  -- a text, and another that goes by the room that the first leaves
  pub brings_on : {s t u : TreeWriter D} {x : List ℕ} {r : Room} (text : Room → List ℕ) (room : Room → Room) → Brings contents s t x r
      → Brings contents t u (text t.sheet.room) (room t.sheet.room) → Brings contents s u (x ++ text r) (room r)
  brings_on {s} {t} {u} {x} {r} text room first second = record {
    goes = by_on s.sheet.stop t.sheet.stop u.sheet.stop (contents s.out.now) (contents t.out.now) (contents u.out.now)
        s.sheet.pending t.sheet.pending u.sheet.pending x (text t.sheet.room) (text r)
        (t.sheet.room ≡ r) (u.sheet.room ≡ room t.sheet.room) (u.sheet.room ≡ room r)
        (λ same. (ap text same, λ later. later ∙ ap room same)) first.goes second.goes;
    stays = stays_on first.stays second.stays;
  }

  brings_asked : {t : TreeWriter D} {x : List ℕ} {r : Room} (s : TreeWriter D) (m : MemoValue) → m.room ≡ s.memo.now.room
      → Brings contents (asked s m) t x r → Brings contents s t x r
  brings_asked s m same brings = record { goes = brings.goes; stays = stays_asked s m same brings.stays }

  -- ---- parts of a line

  pub text_none : (s : TreeWriter D) → AddsText contents s s []
  text_none s = record { brings = brings_as (shown_none s.sheet.room) (past_none s.sheet.room) (brings_none s) }

  pub text_more : {s t u : TreeWriter D} {x y : List ℕ} → AddsText contents s t x → AddsText contents t u y → AddsText contents s u (x ++ y)
  text_more {s} {t} {u} {x} {y} first second = record {
    brings = brings_as (shown_append s.sheet.room x y) (past_append s.sheet.room x y)
        (brings_on (λ r. shown r y) (λ r. past r y) first.brings second.brings);
  }

  -- the same by another word for the text
  pub text_as : {s t : TreeWriter D} {x y : List ℕ} → x ≡ y → AddsText contents s t x → AddsText contents s t y
  text_as {s} {t} {x} {y} same adds = subst (AddsText contents s t) same adds

  pub text_asked : {t : TreeWriter D} {x : List ℕ} (s : TreeWriter D) (m : MemoValue) → m.room ≡ s.memo.now.room
      → AddsText contents (asked s m) t x → AddsText contents s t x
  text_asked s m same adds = record { brings = brings_asked s m same adds.brings }

  -- ---- lines

  pub adds_none : (s : TreeWriter D) → Adds contents s s []
  adds_none s = record { brings = brings_as (nothing_said s.sheet.room) (nothing_behind s.sheet.room) (brings_none s) }

  -- a line that was begun and ended
  pub adds_line : {s t u v : TreeWriter D} {l : List ℕ} → BeginsLine contents s t → AddsText contents t u l → EndsLine contents u v
      → Adds contents s v (l ∷ [])
  adds_line {s} {t} {u} {v} {l} first second third = record {
    brings = brings_as (said_one s.sheet.room l) (behind_one s.sheet.room l)
        (brings_on (λ r. shown r l ++ ending (past r l)) (λ r. past r l) first.brings
        (brings_on ending (λ r. r) second.brings third.brings));
  }

  pub adds_more : {s t u : TreeWriter D} {xs ys : List (List ℕ)} → Adds contents s t xs → Adds contents t u ys → Adds contents s u (xs ++ ys)
  adds_more {s} {t} {u} {xs} {ys} first second = record {
    brings = brings_as (said_append s.sheet.room xs ys) (behind_append s.sheet.room xs ys)
        (brings_on (λ r. said r ys) (λ r. behind r ys) first.brings second.brings);
  }

  pub adds_first : {s t u : TreeWriter D} {l : List ℕ} {ls : List (List ℕ)} → Adds contents s t (l ∷ []) → Adds contents t u ls
      → Adds contents s u (l ∷ ls)
  adds_first first second = adds_more first second

  -- the same by another word for the lines
  pub adds_as : {s t : TreeWriter D} {xs ys : List (List ℕ)} → xs ≡ ys → Adds contents s t xs → Adds contents s t ys
  adds_as {s} {t} {xs} {ys} same adds = subst (Adds contents s t) same adds

  pub adds_asked : {t : TreeWriter D} {ls : List (List ℕ)} (s : TreeWriter D) (m : MemoValue) → m.room ≡ s.memo.now.room
      → Adds contents (asked s m) t ls → Adds contents s t ls
  adds_asked s m same adds = record { brings = brings_asked s m same adds.brings }

  -- Once a line was left out, or writing stopped, nothing more is written.
  adds_closed : {s t : TreeWriter D} {xs : List (List ℕ)} (ys : List (List ℕ)) → is_closed t.sheet ≡ true → Adds contents s t xs
      → Adds contents s t (xs ++ ys)
  adds_closed {s} {t} {xs} ys closed adds =
      let room = behind s.sheet.room xs in
      let rest : (t.sheet.room ≡ room) → t.sheet.room.cut ≡ true → (said room ys ≡ []) × (t.sheet.room ≡ behind room ys) =
      λ same cut. let cut' : room.cut ≡ true = ap (λ (r : Room). r.cut) (sym same) ∙ cut in
      (said_cut room ys cut', same ∙ sym (behind_cut room ys cut')) in
      record {
        brings = brings_as (said_append s.sheet.room xs ys) (behind_append s.sheet.room xs ys) (record {
          goes = by_closed s.sheet.stop t.sheet.stop t.sheet.room.cut (contents s.out.now) (contents t.out.now) s.sheet.pending t.sheet.pending
              (said s.sheet.room xs) (said room ys) (t.sheet.room ≡ room) (t.sheet.room ≡ behind room ys) closed rest adds.brings.goes;
          stays = adds.brings.stays;
        });
      }

-- ---- what is shown of each of a list, one after the other

module _ {X Y : Type 0} (f : X → List Y) (xs : List X) where
  -- one more of a list
  more : (i : ℕ) (x : X) → i < length xs → x ≡ get_or xs i x → flat_map f (take i xs) ++ f x ≡ flat_map f (take (i + 1) xs)
  more i x here is =
      ap (λ y. flat_map f (take i xs) ++ f y) is ∙ flat_map_more f [] (take i xs) (get_or xs i x) ∙ ap (flat_map f) (sym (take_more xs i x here))

  split : (i : ℕ) → flat_map f (take i xs) ++ flat_map f (drop i xs) ≡ flat_map f xs
  split i = sym (flat_map-append f (take i xs) (drop i xs)) ∙ ap (flat_map f) (take-append-drop i xs)

module _ {D : Type 0} (contents : D → Option (List ℕ)) (s t : TreeWriter D) {X : Type 0} where
  -- the words of the first of a list
  pub record SomeWords (f : X → List ℕ) (xs : List X) (i : ℕ) : Type 0 where
    pub adds : AddsText contents s t (flat_map f (take i xs))

  -- their lines
  pub record SomeLines (f : X → List (List ℕ)) (xs : List X) (i : ℕ) : Type 0 where
    pub adds : Adds contents s t (flat_map f (take i xs))

  -- their lines below a name, which stands there once there is a line
  pub record SomeHeaded (name : List ℕ) (f : X → List (List ℕ)) (xs : List X) (i : ℕ) (is_open : Bool) : Type 0 where
    pub adds : Adds contents s t (headed name (flat_map f (take i xs)))
    pub opens : is_open ≡ is_some_line (flat_map f (take i xs))

module _ {D : Type 0} {contents : D → Option (List ℕ)} {X : Type 0} {f : X → List ℕ} {xs : List X} where
  pub words_none : (s : TreeWriter D) → SomeWords contents s s f xs 0
  words_none s = record { adds = text_none s }

  pub words_more : {s t u : TreeWriter D} {i : ℕ} {x : X} → i < length xs → x ≡ get_or xs i x → SomeWords contents s t f xs i
      → AddsText contents t u (f x) → SomeWords contents s u f xs (i + 1)
  words_more {i = i} {x = x} here is before adds = record { adds = text_as (more f xs i x here is) (text_more before.adds adds) }

  pub words_all : {s t : TreeWriter D} {i : ℕ} → length xs ≤ i → SomeWords contents s t f xs i → AddsText contents s t (flat_map f xs)
  words_all {i = i} whole before = text_as (ap (flat_map f) (take_all i xs whole)) before.adds

module _ {D : Type 0} {contents : D → Option (List ℕ)} {X : Type 0} {f : X → List (List ℕ)} {xs : List X} where
  pub lines_none : (s : TreeWriter D) → SomeLines contents s s f xs 0
  lines_none s = record { adds = adds_none s }

  pub lines_more : {s t u : TreeWriter D} {i : ℕ} {x : X} → i < length xs → x ≡ get_or xs i x → SomeLines contents s t f xs i
      → Adds contents t u (f x) → SomeLines contents s u f xs (i + 1)
  lines_more {i = i} {x = x} here is before adds = record { adds = adds_as (more f xs i x here is) (adds_more before.adds adds) }

  pub lines_all : {s t : TreeWriter D} {i : ℕ} → length xs ≤ i → SomeLines contents s t f xs i → Adds contents s t (flat_map f xs)
  lines_all {i = i} whole before = adds_as (ap (flat_map f) (take_all i xs whole)) before.adds

  pub lines_closed : {s t : TreeWriter D} {i : ℕ} → is_closed t.sheet ≡ true → SomeLines contents s t f xs i → Adds contents s t (flat_map f xs)
  lines_closed {i = i} closed before = adds_as (split f xs i) (adds_closed (flat_map f (drop i xs)) closed before.adds)

-- ---- the same below a name

headed_append : (name : List ℕ) (xs ys : List (List ℕ)) → headed name xs ++ headed_on name (is_some_line xs) ys ≡ headed name (xs ++ ys)
headed_append name [] ys = refl
headed_append name (x ∷ xs) ys = refl

some_append : (xs ys : List (List ℕ)) → (is_some_line xs || is_some_line ys) ≡ is_some_line (xs ++ ys)
some_append [] ys = refl
some_append (x ∷ xs) ys = refl

named : (name : List ℕ) (is_open has : Bool) (ls : List (List ℕ)) → has ≡ is_some_line ls
    → name_lines name is_open has ++ ls ≡ headed_on name is_open ls
named name true has ls is = refl
named name false has [] is = rw is refl
named name false has (l ∷ ls) is = rw is refl

module _ {D : Type 0} {contents : D → Option (List ℕ)} {X : Type 0} {name : List ℕ} {f : X → List (List ℕ)} {xs : List X} where
  pub headed_none : (s : TreeWriter D) → SomeHeaded contents s s name f xs 0 false
  headed_none s = record { adds = adds_none s; opens = refl }

  -- the name where it is wanted, and lines below it
  pub headed_more : {s t u v : TreeWriter D} {is_open has : Bool} {i : ℕ} {x : X} → i < length xs → x ≡ get_or xs i x → has ≡ is_some_line (f x)
      → SomeHeaded contents s t name f xs i is_open → Adds contents t u (name_lines name is_open has) → Adds contents u v (f x)
      → SomeHeaded contents s v name f xs (i + 1) (is_open || has)
  headed_more {is_open = is_open} {has = has} {i = i} {x = x} here is has_is before first second =
      let lines = flat_map f (take i xs) in
      record {
        adds = adds_as (ap (λ o. headed name lines ++ headed_on name o (f x)) before.opens ∙ headed_append name lines (f x)
            ∙ ap (headed name) (more f xs i x here is))
            (adds_more before.adds (adds_as (named name is_open has (f x) has_is) (adds_more first second)));
        opens = ap (λ o. o || has) before.opens ∙ ap (λ h. is_some_line lines || h) has_is ∙ some_append lines (f x)
            ∙ ap is_some_line (more f xs i x here is);
      }

  pub headed_all : {s t : TreeWriter D} {i : ℕ} {is_open : Bool} → length xs ≤ i → SomeHeaded contents s t name f xs i is_open
      → Adds contents s t (headed name (flat_map f xs))
  headed_all {i = i} whole before = adds_as (ap (λ ys. headed name (flat_map f ys)) (take_all i xs whole)) before.adds

  pub headed_closed : {s t : TreeWriter D} {i : ℕ} {is_open : Bool} → is_closed t.sheet ≡ true → SomeHeaded contents s t name f xs i is_open
      → Adds contents s t (headed name (flat_map f xs))
  headed_closed {i = i} closed before =
      let lines = flat_map f (take i xs) in
      adds_as (headed_append name lines (flat_map f (drop i xs)) ∙ ap (headed name) (split f xs i))
      (adds_closed (headed_on name (is_some_line lines) (flat_map f (drop i xs))) closed before.adds)
