-- Where a record claims what is listed of its keys, each claim names a key, and each key is named.
use Rattle.std.proofs.Common.{◌≡◌, ℕ, zero, suc, ◌-◌, ◌==◌, Bool, true, false, not, ◌&&◌, ◌||◌, cond, if◌then◌else◌, List, [], ◌∷◌, ◌++◌}
use Rattle.std.proofs.Common.{codes, Option, Some, None, map, filter, refl, ap, sym, ◌∙◌, subst, append-nil, arith}
use Rattle.std.specs.List.{All, Contains, list_all, list_any, slice_split}
use Rattle.std.specs.Option.{option_map_or}
use Rattle.std.proofs.lemmas.Bool.{and_parts, eq-eqb}
use Rattle.std.proofs.lemmas.List.Elements.{All-nil, All-cons}
use Rattle.std.proofs.lemmas.List.Splits.{slice_split_none, slice_split_at}
use Rattle.chess_board.specs.Positions.{Setup}
use Rattle.chess_board.specs.Moves.{Move}
use Rattle.chess_moves.specs.inside.Listing.{legal_moves}
use Rattle.chess_moves.specs.Laws.{LegalListed}
use Rattle.chess_problems.specs.declared.outcomes.Outcome.{Outcome}
use Rattle.chess_problems.specs.declared.outcomes.Outcome.TheVariants.{Mate, NoMate}
use Rattle.chess_problems.specs.Outcomes.{AreLegal, IsPlayable}
use Rattle.chess_problems.specs.Problems.{ProblemValue}
use Rattle.chess_problems.specs.SameProblems.{is_same_move}
use Rattle.chess_notation.specs.Words.{is_empty_text, words_in}
use Rattle.chess_notation.specs.Opcodes.{comes_before}
use Rattle.chess_notation.specs.SanText.{san_text}
use Rattle.chess_notation.specs.SanLaws.{NamesOne}
use Rattle.chess_notation.specs.AvoidMoves.{names, is_name, named}
use Rattle.chess_notation.specs.Answers.{with_text, in_order, operand_words}
use Rattle.chess_notation.specs.Claims.{is_claim, is_some_if_length, is_small_if_length, claims_fault, length_claimed}
use Rattle.mate_search.specs.Wins.{leaves_lost}
use Rattle.mate_search.specs.inside.Truth.{dist, truth, truth_among, first_moves}
use Rattle.mate_search.specs.inside.Variation.{keys, variation}
use Rattle.mate_claims.specs.Rows.{listed, keys_found}
use Rattle.mate_claims.specs.Said.{claims_refusal, refusal_of}
use Rattle.mate_claims.proofs.TextBytes.{no_space, is_solid, solid-san_text, no_length-san_text, names-san_text}

-- The words of a list are its texts, where each is one word.
abbrev is_space : ℕ → Bool
is_space b = b == 32

abbrev is_word : List ℕ → Bool
is_word word = not (is_empty_text word)

not_space_at : (space : Bool) → not space ≡ true → space ≡ false
not_space_at true h = cc
not_space_at false h = refl

none_space : (word : List ℕ) → list_all no_space word ≡ true → All (λ b. is_space b ≡ false) word
none_space [] h = All-nil (λ b. is_space b ≡ false)
none_space (b ∷ bs) h =
    let both = and_parts (no_space b) (list_all no_space bs) h in
    All-cons (λ x. is_space x ≡ false) b bs (not_space_at (is_space b) both.0) (none_space bs both.1)

word_kept : (word : List ℕ) (words : List (List ℕ)) → is_word word ≡ true → filter is_word (word ∷ words) ≡ word ∷ filter is_word words
word_kept word words some = rw some refl

words_listed : (texts : List (List ℕ)) → list_all is_solid texts ≡ true → words_in (operand_words texts) ≡ texts
unfolding words_in
words_listed [] solid = refl
words_listed (text ∷ []) solid =
    let both = and_parts (is_solid text) true solid in
    let parts = and_parts (is_word text) (list_all no_space text) both.0 in
    ap (λ t. filter is_word (slice_split is_space t)) (append-nil text)
    ∙ ap (filter is_word) (slice_split_none is_space text (none_space text parts.1)) ∙ word_kept text [] parts.0
words_listed (text ∷ next ∷ texts) solid =
    let both = and_parts (is_solid text) (list_all is_solid (next ∷ texts)) solid in
    let parts = and_parts (is_word text) (list_all no_space text) both.0 in
    let rest = next ++ operand_words texts in
    ap (filter is_word) (slice_split_at is_space text 32 rest (none_space text parts.1) refl)
    ∙ word_kept text (slice_split is_space rest) parts.0 ∙ ap (λ words. text ∷ words) (words_listed (next ∷ texts) both.1)

-- In which order texts stand makes no difference to a test of all of them, nor to one of some of them.
all_swap : (a b c : Bool) → (a && (b && c)) ≡ (b && (a && c))
all_swap true true c = refl
all_swap true false c = refl
all_swap false true c = refl
all_swap false false c = refl

any_swap : (a b c : Bool) → (a || (b || c)) ≡ (b || (a || c))
any_swap true true c = refl
any_swap true false c = refl
any_swap false true c = refl
any_swap false false c = refl

all_with_text : (test : List ℕ → Bool) (text : List ℕ) (texts : List (List ℕ))
    → list_all test (with_text text texts) ≡ (test text && list_all test texts)
all_with_text test text [] = refl
all_with_text test text (next ∷ texts) = by_order (comes_before text next) (all_with_text test text texts) where
  by_order : (before : Bool) → list_all test (with_text text texts) ≡ (test text && list_all test texts)
      → list_all test (if before then text ∷ next ∷ texts else next ∷ with_text text texts)
      ≡ (test text && (test next && list_all test texts))
  by_order true rest = refl
  by_order false rest = ap (λ b. test next && b) rest ∙ all_swap (test next) (test text) (list_all test texts)

any_with_text : (test : List ℕ → Bool) (text : List ℕ) (texts : List (List ℕ))
    → list_any test (with_text text texts) ≡ (test text || list_any test texts)
any_with_text test text [] = refl
any_with_text test text (next ∷ texts) = by_order (comes_before text next) (any_with_text test text texts) where
  by_order : (before : Bool) → list_any test (with_text text texts) ≡ (test text || list_any test texts)
      → list_any test (if before then text ∷ next ∷ texts else next ∷ with_text text texts)
      ≡ (test text || (test next || list_any test texts))
  by_order true rest = refl
  by_order false rest = ap (λ b. test next || b) rest ∙ any_swap (test next) (test text) (list_any test texts)

all_in_order : (test : List ℕ → Bool) (texts : List (List ℕ)) → list_all test (in_order texts) ≡ list_all test texts
all_in_order test [] = refl
all_in_order test (text ∷ texts) = all_with_text test text (in_order texts) ∙ ap (λ b. test text && b) (all_in_order test texts)

any_in_order : (test : List ℕ → Bool) (texts : List (List ℕ)) → list_any test (in_order texts) ≡ list_any test texts
any_in_order test [] = refl
any_in_order test (text ∷ texts) = any_with_text test text (in_order texts) ∙ ap (λ b. test text || b) (any_in_order test texts)

-- What passes for each legal move's text passes for those of the keys.
each_text : (p : Setup) (test : List ℕ → Bool) → ((m : Move) → Contains (legal_moves p) m → test (san_text p m) ≡ true)
    → (ms : List Move) → AreLegal p ms → list_all test (in_order (map (san_text p) ms)) ≡ true
each_text p test passes ms legal = all_in_order test (map (san_text p) ms) ∙ unordered ms legal where
  unordered : (ms : List Move) → AreLegal p ms → list_all test (map (san_text p) ms) ≡ true
  unordered [] legal = refl
  unordered (m ∷ ms) legal = rw (passes m legal.0) (unordered ms legal.1)

-- A list with a member that passes.
any_of : (test : Move → Bool) (ms : List Move) (m : Move) → Contains ms m → test m ≡ true → list_any test ms ≡ true
any_of test [] m inside is = absurd (omega (arith, inside.1))
any_of test (n ∷ ns) m (zero, on, e) is = let here : test n ≡ true = ap test e ∙ is in rw here refl
any_of test (n ∷ ns) m (suc k, on, e) is =
    let rest = any_of test ns m (k, omega arith, e) is in
    elim (test n) as (λ b. (b || list_any test ns) ≡ true) [ true ↦ refl | false ↦ rest ]

-- Each text names a legal move and is no length.
no_fault_claims : LegalListed → (p : Setup) (ms : List Move) → AreLegal p ms → claims_fault p (in_order (map (san_text p) ms)) ≡ None
unfolding is_name
no_fault_claims legal_listed p ms legal =
    let some = each_text p is_some_if_length (λ m inside. rw (no_length-san_text legal_listed p m inside) refl) ms legal in
    let small = each_text p is_small_if_length (λ m inside. rw (no_length-san_text legal_listed p m inside) refl) ms legal in
    let each = each_text p (is_claim p) (λ m inside. rw (no_length-san_text legal_listed p m inside)
    (any_of (names p (san_text p m)) (legal_moves p) m inside (names-san_text p m))) ms legal in
    rw (some, small, each) refl

-- A filter of the legal moves is what its texts name.
kept : (test : Move → Bool) (ms : List Move) (m : Move) → Contains ms m → test m ≡ true → (other : Move → Bool)
    → other m ≡ true → list_any other (filter test ms) ≡ true
kept test [] m inside is other there = absurd (omega (arith, inside.1))
kept test (n ∷ ns) m (zero, on, e) is other there =
    let here : test n ≡ true = ap test e ∙ is in
    let found : other n ≡ true = ap other e ∙ there in
    rw here (rw found refl)
kept test (n ∷ ns) m (suc k, on, e) is other there =
    let rest = kept test ns m (k, omega arith, e) is other there in
    elim (test n) as (λ b. list_any other (cond b (n ∷ filter test ns) (filter test ns)) ≡ true) [
      | true ↦ elim (other n) as (λ b. (b || list_any other (filter test ns)) ≡ true) [ true ↦ refl | false ↦ rest ]
      | false ↦ rest
    ]

-- What some member of a filter passes.
some_kept : (test : Move → Bool) (ms : List Move) (other : Move → Bool) → list_any other (filter test ms) ≡ true
    → (m : Move) × Contains ms m × (test m ≡ true) × (other m ≡ true)
some_kept test [] other some = cc
some_kept test (n ∷ ns) other some =
    let later : list_any other (filter test ns) ≡ true → (m : Move) × Contains (n ∷ ns) m × (test m ≡ true) × (other m ≡ true) =
    λ more. let got = some_kept test ns other more in (got.0, (suc got.1.0, omega (arith, got.1.1), got.1.2), got.2, got.3) in
    (elim (test n) as (λ b. test n ≡ b → list_any other (cond b (n ∷ filter test ns) (filter test ns)) ≡ true
    → (m : _) × Contains (n ∷ ns) m × (test m ≡ true) × (other m ≡ true)) [
      | true ↦ λ is any. (elim (other n) as (λ b. other n ≡ b → (b || list_any other (filter test ns)) ≡ true
          → (m : _) × Contains (n ∷ ns) m × (test m ≡ true) × (other m ≡ true)) [
            | true ↦ λ there all. (n, (0, omega arith, refl), is, there)
            | false ↦ λ there all. later all
          ]) refl any
      | false ↦ λ is any. later any
    ]) refl some

any_map : {X : Type 0} (test : List ℕ → Bool) (f : X → List ℕ) (xs : List X) → list_any test (map f xs) ≡ list_any (λ x. test (f x)) xs
any_map test f [] = refl
any_map test f (x ∷ xs) = ap (λ b. test (f x) || b) (any_map test f xs)

same_test : (a b : Bool) → (a ≡ true → b ≡ true) → (b ≡ true → a ≡ true) → a ≡ b
same_test true true to from = refl
same_test true false to from = sym (to refl)
same_test false true to from = from refl
same_test false false to from = refl

filter_same : (f g : Move → Bool) (ms : List Move) → ((m : Move) → Contains ms m → f m ≡ g m) → filter f ms ≡ filter g ms
filter_same f g [] same = refl
filter_same f g (m ∷ ms) same =
    let here = same m (0, omega arith, refl) in
    let rest = filter_same f g ms (λ n inside. same n (suc inside.0, omega (arith, inside.1), inside.2)) in
    rw here (ap (λ ns. cond (g m) (m ∷ ns) ns) rest)

named_texts : NamesOne → (p : Setup) (test : Move → Bool)
    → named p (in_order (map (san_text p) (filter test (legal_moves p)))) ≡ filter test (legal_moves p)
unfolding named
named_texts names_one p test = filter_same (λ m. list_any (λ word. names p word m) words) test (legal_moves p) each where
  words : List (List ℕ)
  words = in_order (map (san_text p) (filter test (legal_moves p)))

  each : (m : Move) → Contains (legal_moves p) m → list_any (λ word. names p word m) words ≡ test m
  each m inside =
      let by_keys : list_any (λ word. names p word m) words ≡ list_any (λ n. names p (san_text p n) m) (filter test (legal_moves p)) =
      any_in_order (λ word. names p word m) (map (san_text p) (filter test (legal_moves p)))
      ∙ any_map (λ word. names p word m) (san_text p) (filter test (legal_moves p)) in
      by_keys ∙ same_test (list_any (λ n. names p (san_text p n) m) (filter test (legal_moves p))) (test m)
      (λ some.
      let got = some_kept test (legal_moves p) (λ n. names p (san_text p n) m) some in
      let same : got.0 ≡ m = names_one p (san_text p got.0) got.0 m got.1 inside (names-san_text p got.0) got.3 in
      sym (ap test same) ∙ got.2)
      (λ is. kept test (legal_moves p) m inside is (λ n. names p (san_text p n) m) (names-san_text p m))

filter_both : (f g : Move → Bool) (ms : List Move) → filter f (filter g ms) ≡ filter (λ m. g m && f m) ms
filter_both f g [] = refl
filter_both f g (m ∷ ms) = (elim (g m) as (λ b. filter f (cond b (m ∷ filter g ms) (filter g ms))
    ≡ cond (b && f m) (m ∷ filter (λ n. g n && f n) ms) (filter (λ n. g n && f n) ms)) [
      | true ↦ ap (λ ns. cond (f m) (m ∷ ns) ns) (filter_both f g ms)
      | false ↦ filter_both f g ms
    ])

-- So it is for the keys of a mate.
pub record NamesKeys (p : Setup) (words : List (List ℕ)) (ms : List Move) : Type 0 where
  pub clear : claims_fault p words ≡ None
  pub named_is : named p words ≡ ms

names_filter : LegalListed → NamesOne → (p : Setup) (test : Move → Bool) (ms : List Move) → ms ≡ filter test (legal_moves p) → AreLegal p ms
    → NamesKeys p (words_in (listed p ms)) ms
names_filter legal_listed names_one p test ms is legal =
    let words : words_in (listed p ms) ≡ in_order (map (san_text p) ms) =
    words_listed (in_order (map (san_text p) ms)) (each_text p is_solid (λ m inside. solid-san_text legal_listed p m inside) ms legal) in
    let named_is : named p (in_order (map (san_text p) ms)) ≡ ms =
    ap (λ ns. named p (in_order (map (san_text p) ns))) is ∙ named_texts names_one p test ∙ sym is in
    record {
      clear = ap (claims_fault p) words ∙ no_fault_claims legal_listed p ms legal;
      named_is = ap (named p) words ∙ named_is;
    }

none_named : (ms : List Move) → filter (λ m. false) ms ≡ []
none_named [] = refl
none_named (m ∷ ms) = none_named ms

pub names_none : (p : Setup) → NamesKeys p (words_in []) []
unfolding words_in named
names_none p = record { clear = refl; named_is = none_named (legal_moves p) }

-- What is listed of the keys that were found names them.
pub keys_named : LegalListed → NamesOne → (q : ProblemValue) (outcome : Outcome) → outcome ≡ truth q → IsPlayable q.position outcome
    → NamesKeys q.position (words_in (listed q.position (keys_found outcome))) (keys_found outcome)
unfolding truth truth_among first_moves IsPlayable
keys_named legal_listed names_one q outcome is playable =
    subst (λ o. IsPlayable q.position o → NamesKeys q.position (words_in (listed q.position (keys_found o))) (keys_found o)) (sym is)
    (by_length (dist (first_moves q) q.position q.bound)) playable where
      first : List Move
      first = first_moves q

      may_begin : Move → Bool
      may_begin m = not (list_any (is_same_move m) q.avoid)

      outcome_of : Option ℕ → Outcome
      outcome_of length = option_map_or
          (λ n. Mate n (record { items = keys first q.position n }) (record { items = variation first q.position n })) length NoMate

      by_length : (length : Option ℕ) → IsPlayable q.position (outcome_of length)
          → NamesKeys q.position (words_in (listed q.position (keys_found (outcome_of length)))) (keys_found (outcome_of length))
      by_length None playable = names_none q.position
      by_length (Some n) playable =
          names_filter legal_listed names_one q.position (λ m. may_begin m && leaves_lost (n - 1) q.position m) (keys first q.position n)
          (filter_both (leaves_lost (n - 1) q.position) may_begin (legal_moves q.position)) playable.0

-- Where there is no fault and the lengths agree, nothing is amiss.
pub none_refused : (p : Setup) (bound : ℕ) (words : List (List ℕ)) → claims_fault p words ≡ None → (length_claimed words bound == bound) ≡ true
    → claims_refusal p bound words ≡ None
none_refused p bound words clear agreed =
    ap (λ f. refusal_of f bound (length_claimed words bound)) clear ∙ ap (λ b. if b then None else Some (codes "TwoLengths")) agreed

pub nothing_refused : (p : Setup) (bound : ℕ) → claims_refusal p bound (words_in []) ≡ None
unfolding words_in
nothing_refused p bound = none_refused p bound (words_in []) (names_none p).clear (eq-eqb bound bound refl)
