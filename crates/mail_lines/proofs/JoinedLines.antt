-- The lines as which an input reads, one line more being known.
use Rattle.std.proofs.Common.{◌≡◌, ◌<◌, ◌+◌, ℕ, zero, suc, Bool, true, false, not, ◌&&◌, List, [], ◌∷◌, ◌++◌, Option, None, Some, ap, append_assoc, append-nil, arith, codes, length, length-append, map, refl, sym, ◌∙◌}
use Rattle.std.proofs.lemmas.List.{map-append}
use Rattle.chess_notation.specs.Words.{is_blank}
use Rattle.text_lines.specs.declared.taken_lines.TakenLine.{TakenLine}
use Rattle.mail_lines.specs.Labels.{bared}
use Rattle.mail_lines.specs.Mails.{added, begins_mail, ends_mail, is_headed_behind, with_mails}
use Rattle.mail_lines.specs.declared.open_mails.OpenMail.{OpenMail}
use Rattle.mail_lines.specs.inside.OpenMails.{IsBehind, IsOpenBehind, IsShutBehind, IsTextOf, Reading, ReadsFirst, behind_line, empty_lines, reading_of}
use Rattle.mail_lines.proofs.MailTexts.{filled_append}

-- ---- one line

with_plain : (headed : Bool) (line : List ℕ) (rest : List (List ℕ)) → (not headed && begins_mail (bared line)) ≡ false
    → with_mails false headed (line ∷ rest) ≡ bared line ∷ with_mails false (is_headed_behind headed (bared line)) rest
with_plain headed line rest none = rw none refl

with_mail : (headed : Bool) (line : List ℕ) (rest : List (List ℕ)) → (not headed && begins_mail (bared line)) ≡ true
    → with_mails false headed (line ∷ rest) ≡ (bared line ++ added rest) ∷ with_mails true false rest
with_mail headed line rest begins = rw begins refl

with_more : (line : List ℕ) (rest : List (List ℕ)) → ends_mail line ≡ false → with_mails true false (line ∷ rest) ≡ [] ∷ with_mails true false rest
with_more line rest on = rw on refl

with_end : (line : List ℕ) (rest : List (List ℕ)) → ends_mail line ≡ true → with_mails true false (line ∷ rest) ≡ with_mails false false (line ∷ rest)
with_end line rest ends = rw ends refl

added_more : (line : List ℕ) (rest : List (List ℕ)) → ends_mail line ≡ false → added (line ∷ rest) ≡ codes " ; " ++ (line ++ added rest)
added_more line rest on = rw on refl

added_end : (line : List ℕ) (rest : List (List ℕ)) → ends_mail line ≡ true → added (line ∷ rest) ≡ []
added_end line rest ends = rw ends refl

one_empty : (n : ℕ) (lines : List (List ℕ)) → empty_lines n ++ ([] ∷ lines) ≡ [] ∷ (empty_lines n ++ lines)
one_empty zero lines = refl
one_empty (suc n) lines = ap (λ ls. [] ∷ ls) (one_empty n lines)

pub length-empty : (n : ℕ) → length (empty_lines n) ≡ n
length-empty zero = refl
length-empty (suc n) = ap suc (length-empty n)

-- ---- no problem is open

pub plain_next : (headed : Bool) (number : ℕ) (reading : Reading) (lines : List (List ℕ)) (line : List ℕ)
    → (not headed && begins_mail (bared line)) ≡ false → IsShutBehind headed number reading lines
    → IsShutBehind (is_headed_behind headed (bared line)) (number + 1) (behind_line line reading) (lines ++ bared line ∷ [])
plain_next headed number reading lines line none shut = record {
  reads = λ rest. shut.reads (line ∷ rest) ∙ ap (λ ls. lines ++ ls) (with_plain headed line rest none)
      ∙ sym (append_assoc lines (bared line ∷ []) (with_mails false (is_headed_behind headed (bared line)) rest));
  next = omega (arith, shut.next, length-append lines (bared line ∷ []));
}

pub mail_next : (headed : Bool) (number : ℕ) (reading : Reading) (lines : List (List ℕ)) (line : List ℕ) (kept : TakenLine)
    → is_blank (bared line) ≡ false → (not headed && begins_mail (bared line)) ≡ true → IsTextOf kept (bared line)
    → IsShutBehind headed number reading lines
    → IsOpenBehind (record { number = number; text = kept }) (number + 1) (behind_line line reading) lines
mail_next headed number reading lines line kept filled begins is shut = record {
  text = bared line;
  empty = 0;
  is = is;
  filled = filled;
  reads = λ rest. shut.reads (line ∷ rest) ∙ ap (λ ls. lines ++ ls) (with_mail headed line rest begins);
  first = shut.next;
  next = omega arith;
}

-- ---- one is

pub mail_on : (mail new : OpenMail) (number : ℕ) (reading : Reading) (lines : List (List ℕ)) (line : List ℕ) → ends_mail line ≡ false
    → new.number ≡ mail.number
    → (o : IsOpenBehind mail number reading lines) → IsTextOf new.text (o.text ++ (codes " ; " ++ line))
    → IsOpenBehind new (number + 1) (behind_line line reading) lines
mail_on mail new number reading lines line on same o is = record {
  text = o.text ++ (codes " ; " ++ line);
  empty = suc o.empty;
  is = is;
  filled = filled_append o.text (codes " ; " ++ line) o.filled;
  reads = λ rest. o.reads (line ∷ rest)
      ∙ ap (λ t. lines ++ ((o.text ++ t) ∷ (empty_lines o.empty ++ with_mails true false (line ∷ rest)))) (added_more line rest on)
      ∙ ap (λ t. lines ++ (t ∷ (empty_lines o.empty ++ with_mails true false (line ∷ rest)))) (together (added rest))
      ∙ ap (λ ls. lines ++ (((o.text ++ (codes " ; " ++ line)) ++ added rest) ∷ ls))
      (ap (λ ls. empty_lines o.empty ++ ls) (with_more line rest on) ∙ one_empty o.empty (with_mails true false rest));
  first = same ∙ o.first;
  next = omega (arith, o.next, same);
}
  where
    together : (rest : List ℕ) → o.text ++ (codes " ; " ++ (line ++ rest)) ≡ (o.text ++ (codes " ; " ++ line)) ++ rest
    together rest = ap (λ t. o.text ++ t) (sym (append_assoc (codes " ; ") line rest)) ∙ sym (append_assoc o.text (codes " ; " ++ line) rest)

-- the lines up to the last of an open problem
abbrev pub lines_with : List (List ℕ) → List ℕ → ℕ → List (List ℕ)
lines_with lines text empty = (lines ++ text ∷ []) ++ empty_lines empty

shut_by : (lines : List (List ℕ)) (text more : List ℕ) (empty : ℕ) (rest : List (List ℕ)) → more ≡ []
    → lines ++ ((text ++ more) ∷ (empty_lines empty ++ rest)) ≡ lines_with lines text empty ++ rest
shut_by lines text more empty rest none =
    ap (λ t. lines ++ (t ∷ (empty_lines empty ++ rest))) (ap (λ m. text ++ m) none ∙ append-nil text)
    ∙ sym (append_assoc lines (text ∷ []) (empty_lines empty ++ rest)) ∙ sym (append_assoc (lines ++ text ∷ []) (empty_lines empty) rest)

-- A line ends it: it reads as if none had been open.
pub mail_shut : (mail : OpenMail) (number : ℕ) (reading : Reading) (lines : List (List ℕ)) (line : List ℕ) → ends_mail line ≡ true
    → (o : IsOpenBehind mail number reading lines) (rest : List (List ℕ))
    → reading (line ∷ rest) ≡ lines_with lines o.text o.empty ++ with_mails false false (line ∷ rest)
mail_shut mail number reading lines line ends o rest =
    o.reads (line ∷ rest)
    ∙ ap (λ ls. lines ++ ((o.text ++ added (line ∷ rest)) ∷ (empty_lines o.empty ++ ls))) (with_end line rest ends)
    ∙ shut_by lines o.text (added (line ∷ rest)) o.empty (with_mails false false (line ∷ rest)) (added_end line rest ends)

pub shut_here : (mail : OpenMail) (number : ℕ) (reading : Reading) (lines : List (List ℕ)) (o : IsOpenBehind mail number reading lines)
    → IsShutBehind false number (λ rest. lines_with lines o.text o.empty ++ with_mails false false rest) (lines_with lines o.text o.empty)
shut_here mail number reading lines o = record {
  reads = λ rest. refl;
  next = omega (arith, o.first, o.next, length-append lines (o.text ∷ []), length-append (lines ++ o.text ∷ []) (empty_lines o.empty), length-empty o.empty);
}

-- The input ends it.
pub mail_ended : (mail : OpenMail) (number : ℕ) (reading : Reading) (lines : List (List ℕ)) (o : IsOpenBehind mail number reading lines)
    → lines_with lines o.text o.empty ≡ reading []
mail_ended mail number reading lines o = sym (o.reads [] ∙ shut_by lines o.text [] o.empty [] refl ∙ append-nil (lines_with lines o.text o.empty))

pub none_ended : (headed : Bool) (number : ℕ) (reading : Reading) (lines : List (List ℕ)) → IsShutBehind headed number reading lines → lines ≡ reading []
none_ended headed number reading lines shut = sym (shut.reads [] ∙ append-nil lines)

-- Its own line is read first.
pub mail_first : (mail : OpenMail) (number : ℕ) (reading : Reading) (lines : List (List ℕ)) (line : List ℕ) → ends_mail line ≡ true
    → (o : IsOpenBehind mail number reading lines) → ReadsFirst (behind_line line reading) (lines ++ o.text ∷ [])
mail_first mail number reading lines line ends o rest = (
  empty_lines o.empty ++ with_mails false false (line ∷ rest),
  mail_shut mail number reading lines line ends o rest ∙ append_assoc (lines ++ o.text ∷ []) (empty_lines o.empty) (with_mails false false (line ∷ rest)),
)

-- ---- either

pub first_same : (one other : Reading) (lines : List (List ℕ)) → ((rest : List (List ℕ)) → other rest ≡ one rest) → ReadsFirst one lines
    → ReadsFirst other lines
first_same one other lines same first rest = let (more, is) = first rest in (more, same rest ∙ is)

pub behind_same : (mail : Option OpenMail) (headed : Bool) (number : ℕ) (one other : Reading) (lines : List (List ℕ))
    → ((rest : List (List ℕ)) → other rest ≡ one rest) → IsBehind mail headed number one lines → IsBehind mail headed number other lines
behind_same None headed number one other lines same shut = record { reads = λ rest. same rest ∙ shut.reads rest; next = shut.next }
behind_same (Some mail) headed number one other lines same o = record {
  text = o.text;
  empty = o.empty;
  is = o.is;
  filled = o.filled;
  reads = λ rest. same rest ∙ o.reads rest;
  first = o.first;
  next = o.next;
}

pub reads_first : (mail : Option OpenMail) (headed : Bool) (number : ℕ) (reading : Reading) (lines : List (List ℕ))
    → IsBehind mail headed number reading lines → ReadsFirst reading lines
reads_first None headed number reading lines shut rest = (with_mails false headed rest, shut.reads rest)
reads_first (Some mail) headed number reading lines o rest =
    ((o.text ++ added rest) ∷ (empty_lines o.empty ++ with_mails true false rest), o.reads rest)

pub few_lines : (mail : Option OpenMail) (headed : Bool) (number : ℕ) (reading : Reading) (lines : List (List ℕ))
    → IsBehind mail headed number reading lines → length lines < number
few_lines None headed number reading lines shut = omega (arith, shut.next)
few_lines (Some mail) headed number reading lines o = omega (arith, o.first, o.next)

-- ---- of the lines of an input

pub none_taken : IsBehind None false 1 (reading_of []) []
none_taken = record { reads = λ rest. refl; next = refl }

pub reads_taken : (says : List ℕ → List ℕ) (taken : List (List ℕ)) (raw : List ℕ) (rest : List (List ℕ))
    → reading_of (map says (taken ++ raw ∷ [])) rest ≡ reading_of (map says taken) (says raw ∷ rest)
reads_taken says taken raw rest =
    ap (with_mails false false) (ap (λ ls. ls ++ rest) (map-append says taken (raw ∷ [])) ∙ append_assoc (map says taken) (says raw ∷ []) rest)
