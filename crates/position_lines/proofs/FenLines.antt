-- The line of a FEN says that FEN.
use Rattle.std.proofs.Common.{◌≡◌, ◌≢◌, ◌∙◌, ◌==◌, ◌<◌, ℕ, Bool, true, false, List, [], ◌∷◌, ◌++◌, Option, None, Some}
use Rattle.std.proofs.Common.{length, refl, ap, sym, subst, arith, inl, inr, slice_index_or, append_assoc, append-nil}
use Rattle.std.proofs.lemmas.Bool.{eqb-true, le-leb}
use Rattle.std.proofs.lemmas.List.Elements.{All-head}
use Rattle.std.specs.List.{onto_first}
use Rattle.chess_board.specs.declared.men.Colour.{Colour}
use Rattle.chess_board.specs.declared.men.Colour.TheVariants.{White, Black}
use Rattle.chess_board.specs.declared.men.Man.{Man}
use Rattle.chess_board.specs.Fens.{part, parts}
use Rattle.chess_board.specs.Fields.{IsCastling, IsCounter, IsDigit, side_text, square_text, target_text}
use Rattle.chess_board.specs.Placement.{SpellsPlacement, placement_text, rank_places, rank_text}
use Rattle.chess_notation.specs.Records.{IsApart}
use Rattle.chess_notation.specs.RecordFields.{behind_fields, fourth_word, line_fields}
use Rattle.chess_notation.specs.Words.{after_spaces, after_word, behind, front_word, is_empty_text, word_at}
use Rattle.position_lines.specs.LineFens.{FensRead, begins_with_digit, counters_text, line_fen, spaced}

abbrev parts_behind : List ℕ → List (List ℕ)
parts_behind [] = []
parts_behind (b ∷ bs) = parts bs

parts_front_at : (space : Bool) (b : ℕ) (bs : List ℕ) → (b == 32) ≡ space → parts bs ≡ front_word bs ∷ parts_behind (after_word bs)
    → parts (b ∷ bs) ≡ front_word (b ∷ bs) ∷ parts_behind (after_word (b ∷ bs))
parts_front_at true b bs s rest = rw s refl
parts_front_at false b bs s rest = rw s (ap (onto_first b) rest)

parts_front : (text : List ℕ) → parts text ≡ front_word text ∷ parts_behind (after_word text)
parts_front [] = refl
parts_front (b ∷ bs) = parts_front_at (b == 32) b bs refl (parts_front bs)

word_split_at : (space : Bool) (b : ℕ) (bs : List ℕ) → (b == 32) ≡ space → bs ≡ front_word bs ++ after_word bs
    → b ∷ bs ≡ front_word (b ∷ bs) ++ after_word (b ∷ bs)
word_split_at true b bs s rest = rw s refl
word_split_at false b bs s rest = rw s (ap (λ t. b ∷ t) rest)

word_split : (text : List ℕ) → text ≡ front_word text ++ after_word text
word_split [] = refl
word_split (b ∷ bs) = word_split_at (b == 32) b bs refl (word_split bs)

apart_at : (space : Bool) (b : ℕ) (bs : List ℕ) → (b == 32) ≡ space → IsApart (after_word bs) → IsApart (after_word (b ∷ bs))
apart_at true b bs s rest = rw s (eqb-true b 32 s)
apart_at false b bs s rest = rw s rest

apart : (text : List ℕ) → IsApart (after_word text)
apart [] = tt
apart (b ∷ bs) = apart_at (b == 32) b bs refl (apart bs)

solid_at : (space : Bool) (b : ℕ) (bs : List ℕ) → (b == 32) ≡ space → front_word (b ∷ bs) ≢ [] → after_spaces (b ∷ bs) ≡ b ∷ bs
solid_at true b bs s some = absurd (some (rw s refl))
solid_at false b bs s some = rw s refl

solid : (text : List ℕ) → front_word text ≢ [] → after_spaces text ≡ text
solid [] some = absurd (some refl)
solid (b ∷ bs) some = solid_at (b == 32) b bs refl some

-- A word with another behind it: the word, one space, and what says the others.
pub record Next (text first : List ℕ) (others : List (List ℕ)) : Type 0 where
  pub rest : List ℕ
  pub word : word_at text ≡ first
  pub behind_word : behind text ≡ 32 ∷ rest
  pub whole : text ≡ first ++ 32 ∷ rest
  pub split : parts rest ≡ others

next_at : (text first second : List ℕ) (more : List (List ℕ)) (after : List ℕ) → front_word text ≡ first → first ≢ []
    → after_word text ≡ after → IsApart after
    → parts_behind after ≡ second ∷ more → Next text first (second ∷ more)
unfolding word_at behind
next_at text first second more [] front some is space split = let no : [] ≡ second ∷ more = split in cc
next_at text first second more (b ∷ bs) front some is space split =
    let solid_text = solid text (subst (λ w. w ≢ []) (sym front) some) in
    record {
      rest = bs;
      word = ap front_word solid_text ∙ front;
      behind_word = ap after_word solid_text ∙ is ∙ ap (λ x. x ∷ bs) space;
      whole = word_split text ∙ ap (λ t. t ++ after_word text) front ∙ ap (λ t. first ++ t) (is ∙ ap (λ x. x ∷ bs) space);
      split = split;
    }

next : (text first second : List ℕ) (more : List (List ℕ)) → first ≢ [] → parts text ≡ first ∷ second ∷ more → Next text first (second ∷ more)
next text first second more some cut =
    let both : front_word text ∷ parts_behind (after_word text) ≡ first ∷ second ∷ more = sym (parts_front text) ∙ cut in
    let front : front_word text ≡ first = cc in
    let others : parts_behind (after_word text) ≡ second ∷ more = cc in
    next_at text first second more (after_word text) front some refl (apart text) others

last_at : (text first after : List ℕ) → front_word text ≡ first → first ≢ [] → after_word text ≡ after → parts_behind after ≡ []
    → (word_at text ≡ first) × (text ≡ first)
unfolding word_at
last_at text first [] front some is ended =
    let solid_text = solid text (subst (λ w. w ≢ []) (sym front) some) in
    (ap front_word solid_text ∙ front, word_split text ∙ ap (λ t. front_word text ++ t) is ∙ append-nil (front_word text) ∙ front)
last_at text first (b ∷ bs) front some is ended = let no : front_word bs ∷ parts_behind (after_word bs) ≡ [] = sym (parts_front bs) ∙ ended in cc

last : (text first : List ℕ) → first ≢ [] → parts text ≡ first ∷ [] → (word_at text ≡ first) × (text ≡ first)
last text first some cut =
    let both : front_word text ∷ parts_behind (after_word text) ≡ first ∷ [] = sym (parts_front text) ∙ cut in
    let front : front_word text ≡ first = cc in
    let ended : parts_behind (after_word text) ≡ [] = cc in
    last_at text first (after_word text) front some refl ended

word_behind : (text : List ℕ) → word_at (32 ∷ text) ≡ word_at text
unfolding word_at
word_behind text = refl

rest_behind : (text : List ℕ) → behind (32 ∷ text) ≡ behind text
unfolding behind
rest_behind text = refl

spaced_onto : (word text rest : List ℕ) → text ≡ rest → spaced word ++ text ≡ word ++ 32 ∷ rest
spaced_onto word text rest is = append_assoc word (32 ∷ []) text ∙ ap (λ t. word ++ 32 ∷ t) is

onto_last : (v w x y z : List ℕ) → v ++ w ++ x ++ y ++ z ≡ v ++ (w ++ (x ++ (y ++ z)))
onto_last v w x y z = append_assoc (v ++ w ++ x) y z ∙ append_assoc (v ++ w) x (y ++ z) ∙ append_assoc v w (x ++ (y ++ z))

filled : (word : List ℕ) → word ≢ [] → is_empty_text word ≡ false
filled [] some = absurd (some refl)
filled (b ∷ bs) some = refl

-- Six words, each but the last with one space behind it, of which the fifth is a counter.
six_words : (text a b c d e f : List ℕ) → a ≢ [] → b ≢ [] → c ≢ [] → d ≢ [] → e ≢ [] → f ≢ [] → begins_with_digit e ≡ true
    → parts text ≡ a ∷ b ∷ c ∷ d ∷ e ∷ f ∷ []
    → line_fen text ≡ text
unfolding line_fen line_fields fourth_word behind_fields counters_text
six_words text a b c d e f a_some b_some c_some d_some e_some f_some digit cut =
    let n1 = next text a b (c ∷ d ∷ e ∷ f ∷ []) a_some cut in
    let n2 = next n1.rest b c (d ∷ e ∷ f ∷ []) b_some n1.split in
    let n3 = next n2.rest c d (e ∷ f ∷ []) c_some n2.split in
    let n4 = next n3.rest d e (f ∷ []) d_some n3.split in
    let n5 = next n4.rest e f [] e_some n4.split in
    let n6 = last n5.rest f f_some n5.split in
    let b2 : behind (behind text) ≡ 32 ∷ n2.rest = ap behind n1.behind_word ∙ rest_behind n1.rest ∙ n2.behind_word in
    let b3 : behind (behind (behind text)) ≡ 32 ∷ n3.rest = ap behind b2 ∙ rest_behind n2.rest ∙ n3.behind_word in
    let b4 : behind (behind (behind (behind text))) ≡ 32 ∷ n4.rest = ap behind b3 ∙ rest_behind n3.rest ∙ n4.behind_word in
    let b5 : behind (behind (behind (behind (behind text)))) ≡ 32 ∷ n5.rest = ap behind b4 ∙ rest_behind n4.rest ∙ n5.behind_word in
    let w2 : word_at (behind text) ≡ b = ap word_at n1.behind_word ∙ word_behind n1.rest ∙ n2.word in
    let w3 : word_at (behind (behind text)) ≡ c = ap word_at b2 ∙ word_behind n2.rest ∙ n3.word in
    let w4 : word_at (behind (behind (behind text))) ≡ d = ap word_at b3 ∙ word_behind n3.rest ∙ n4.word in
    let w5 : word_at (behind (behind (behind (behind text)))) ≡ e = ap word_at b4 ∙ word_behind n4.rest ∙ n5.word in
    let w6 : word_at (behind (behind (behind (behind (behind text))))) ≡ f = ap word_at b5 ∙ word_behind n5.rest ∙ n6.0 in
    let joined : spaced a ++ spaced b ++ spaced c ++ spaced d ++ (spaced e ++ f) ≡ text =
    onto_last (spaced a) (spaced b) (spaced c) (spaced d) (spaced e ++ f)
    ∙ spaced_onto a _ _ (spaced_onto b _ _ (spaced_onto c _ _
    (spaced_onto d _ _ (spaced_onto e _ _ (sym n6.1) ∙ sym n5.whole) ∙ sym n4.whole) ∙ sym n3.whole) ∙ sym n2.whole)
    ∙ sym n1.whole in
    rw (n1.word, w2, w3, w4, w5, w6, filled d d_some, digit) joined

some : (x : ℕ) (xs : List ℕ) → x ∷ xs ≢ []
some x xs = λ e. cc

append_some : (xs : List ℕ) (y : ℕ) (ys : List ℕ) → xs ++ y ∷ ys ≢ []
append_some [] y ys = some y ys
append_some (x ∷ xs) y ys = some x (xs ++ y ∷ ys)

same_some : (text other : List ℕ) → text ≡ other → other ≢ [] → text ≢ []
same_some text other same filled_other = λ none. filled_other (sym same ∙ none)

long_some : (text : List ℕ) → 0 < length text → text ≢ []
long_some [] long = absurd (omega (arith, long))
long_some (b ∷ bs) long = some b bs

placement_some : (text : List ℕ) (men : List (Option Man)) → SpellsPlacement text men → text ≢ []
placement_some text men spells = same_some text (placement_text men) spells.1 (append_some (rank_text (rank_places men 7)) 47 _)

side_some : (text : List ℕ) (side : Colour) → text ≡ side_text side → text ≢ []
side_some text White is = same_some text _ is (some 119 [])
side_some text Black is = same_some text _ is (some 98 [])

castling_some : (text : List ℕ) → IsCastling text → text ≢ []
castling_some text (inl dash) = same_some text _ dash (some 45 [])
castling_some text (inr letters) = long_some text letters.some

target_some : (text : List ℕ) (target : Option ℕ) → text ≡ target_text target → text ≢ []
target_some text None is = same_some text _ is (some 45 [])
target_some text (Some square) is = same_some text (square_text square) is (some _ _)

counter_digit : (text : List ℕ) → IsCounter text → begins_with_digit text ≡ true
counter_digit [] (long, few, digits) = absurd (omega (arith, long))
counter_digit (b ∷ bs) (long, few, digits) =
    let first : IsDigit b = All-head IsDigit b bs digits in
    rw (le-leb 48 b first.0, le-leb b 57 first.1) refl

six_parts : (xs : List (List ℕ)) → length xs ≡ 6
    → xs ≡ slice_index_or xs 0 [] ∷ slice_index_or xs 1 [] ∷ slice_index_or xs 2 [] ∷ slice_index_or xs 3 []
    ∷ slice_index_or xs 4 [] ∷ slice_index_or xs 5 [] ∷ []
six_parts [] six = absurd (omega (arith, six))
six_parts (a ∷ []) six = absurd (omega (arith, six))
six_parts (a ∷ b ∷ []) six = absurd (omega (arith, six))
six_parts (a ∷ b ∷ c ∷ []) six = absurd (omega (arith, six))
six_parts (a ∷ b ∷ c ∷ d ∷ []) six = absurd (omega (arith, six))
six_parts (a ∷ b ∷ c ∷ d ∷ e ∷ []) six = absurd (omega (arith, six))
six_parts (a ∷ b ∷ c ∷ d ∷ e ∷ f ∷ []) six = refl
six_parts (a ∷ b ∷ c ∷ d ∷ e ∷ f ∷ g ∷ xs) six = absurd (omega (arith, six))

pub fens_read : FensRead
fens_read text v spells =
    let fields = spells.position in
    six_words text (part text 0) (part text 1) (part text 2) (part text 3) (part text 4) (part text 5)
    (placement_some (part text 0) v.position.men fields.placement) (side_some (part text 1) v.position.side fields.side)
    (castling_some (part text 2) fields.castling.0)
    (target_some (part text 3) v.position.target fields.target.1) (long_some (part text 4) spells.halfmove.0.0)
    (long_some (part text 5) spells.fullmove.0.0)
    (counter_digit (part text 4) spells.halfmove.0) (six_parts (parts text) spells.six)
