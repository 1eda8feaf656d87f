-- What the definitions come to for given words and files.
use Rattle.std.proofs.Common.{◌≡◌, ◌∙◌, ◌++◌, ℕ, Bool, true, false, List, [], ◌∷◌, Option, Some}
use Rattle.std.proofs.Common.{None, inl, refl, sym, ap, arith, subst, codes, replicate}
use Rattle.std.proofs.lemmas.Fmt.{decimal_digit}
use Rattle.command_words.proofs.OnLiterals.{desk_on_literals}
use Rattle.chess_board.specs.declared.men.Colour.TheVariants.{White, Black}
use Rattle.chess_board.specs.declared.men.Kind.TheVariants.{King}
use Rattle.chess_board.specs.Fens.{FenValue, SpellsSetup, fen_text, fields_of, position_text}
use Rattle.chess_board.specs.Attacks.{is_in_check}
use Rattle.chess_board.specs.Squares.{any_below}
use Rattle.chess_board.specs.declared.faults.FenFault.TheVariants as fen
use Rattle.chess_board.specs.Laws.{SpellsOne}
use Rattle.chess_notation.specs.EpdFaults.{HasNoFault, IsAmissBy, IsFaultOf}
use Rattle.chess_notation.specs.RecordFields.{fourth_word}
use Rattle.chess_notation.specs.RecordLaws.{RecordsClear}
use Rattle.chess_notation.specs.Words.{behind, is_blank, word_at}
use Rattle.chess_notation.specs.declared.epd_faults.EpdFault.{EpdFault}
use Rattle.chess_notation.specs.declared.epd_faults.EpdFault.TheVariants as fault
use Rattle.clap.specs.Words.{Text}
use Rattle.byte_streams.specs.Inputs.{MayBe}
use Rattle.file_answers.specs.FileAnswers.{AreReplies}
use Rattle.text_lines.specs.LinesFrom.{IsReplyOn}
use Rattle.file_solving.specs.Solved.{Solves, record_replies}
use Rattle.file_answers.specs.Sources.{Holds, held, held_back}
use Rattle.text_lines.specs.Refusals.{fault_line}
use Rattle.mate_answers.specs.InputReplies.{IsLineReply, answered, refused, skipped}
use Rattle.chess_board.specs.Positions.{Setup}
use Rattle.command_words.specs.Asked.{asked, asked_by, asked_exactly, look, serve, solve, solve_on, records_given, records_given_by, records_given_exactly}
use Rattle.plain_commands.specs.Command.{Ends, EndsBy}
use Rattle.command_words.specs.Hyphens.{escaped}
use Rattle.command_words.specs.LineCommands.{joined}
use Rattle.chess_views.specs.Looks.{look_text}
use Rattle.plain_commands.specs.FenCommands.{ShowsFen}

pub asked_look : asked (codes "matedesk" ∷ codes "look" ∷ codes "k7/8/8/8/8/8/8/7K w - - 0 1" ∷ [])
    ≡ Some (look (codes "k7/8/8/8/8/8/8/7K w - - 0 1"))
unfolding desk_on_literals asked_by asked_exactly escaped joined
asked_look = refl

pub asked_solve : asked (codes "matedesk" ∷ codes "solve" ∷ codes "one" ∷ codes "two" ∷ []) ≡ Some (solve 3 65536 1 (codes "one" ∷ codes "two" ∷ []))
unfolding desk_on_literals asked_by asked_exactly escaped joined
asked_solve = refl

pub asked_memory : asked (codes "matedesk" ∷ codes "solve" ∷ codes "--memory" ∷ codes "512M" ∷ codes "one" ∷ [])
    ≡ Some (solve 3 3355443 1 (codes "one" ∷ []))
unfolding desk_on_literals asked_by asked_exactly escaped joined
asked_memory = refl

pub asked_memory_shared : asked (codes "matedesk" ∷ codes "solve" ∷ codes "--workers" ∷ codes "4" ∷ codes "--memory" ∷ codes "8g" ∷ codes "one" ∷ [])
    ≡ Some (solve_on 4 3 10737418 1 (codes "one" ∷ []))
unfolding desk_on_literals asked_by asked_exactly escaped joined
asked_memory_shared = refl

pub asked_serve : asked (codes "matedesk" ∷ codes "serve" ∷ codes "--workers" ∷ codes "2" ∷ codes "one" ∷ codes "two" ∷ [])
    ≡ Some (serve 2 3 16384 (codes "one" ∷ codes "two" ∷ []))
unfolding desk_on_literals asked_by asked_exactly escaped joined
asked_serve = refl

names_solve : records_given (codes "matedesk" ∷ codes "solve" ∷ codes "one" ∷ codes "two" ∷ []) ≡ false
unfolding desk_on_literals records_given_by records_given_exactly escaped joined
names_solve = refl

names_serve : records_given (codes "matedesk" ∷ codes "serve" ∷ codes "--workers" ∷ codes "2" ∷ codes "one" ∷ codes "two" ∷ []) ≡ false
unfolding desk_on_literals records_given_by records_given_exactly escaped joined
names_serve = refl

-- Words that give no records themselves name files.
of_files : (holds : Text → Option (List ℕ)) (refuses : Text → Type 0) (words : List Text) (status : ℕ) (old new : Option (List ℕ))
    → records_given words ≡ false → EndsBy holds refuses words status old new
    → Ends (held false holds) (held_back false refuses) (asked words) status old new
of_files holds refuses words status old new names ends =
    subst (λ given. Ends (held given holds) (held_back given refuses) (asked words) status old new) names ends

kings : Setup
kings = record {
  men = replicate 7 None ++ Some (record { colour = White; kind = King }) ∷ replicate 48 None
      ++ Some (record { colour = Black; kind = King }) ∷ replicate 7 None;
  side = White;
  rights = record { white_king_side = false; white_queen_side = false; black_king_side = false; black_queen_side = false };
  target = None;
}

kings_spelt : SpellsSetup (fields_of (codes "k7/8/8/8/8/8/8/7K w - - 0 1")) kings
unfolding kings
kings_spelt = record { placement = (refl, refl); side = refl; castling = (inl refl, refl); target = (tt, refl) }

-- No square has the white king and is attacked.
kings_quiet : is_in_check kings.men kings.side ≡ false
unfolding kings any_below
kings_quiet = refl

kings_text : position_text kings ≡ codes "k7/8/8/8/8/8/8/7K w - -"
unfolding kings position_text
kings_text = refl

kings_shown : (v : FenValue) → v.position ≡ kings → v.halfmove ≡ 0 → v.fullmove ≡ 1 → look_text v ≡ codes "k7/8/8/8/8/8/8/7K w - - 0 1\nno check\n"
unfolding look_text fen_text
kings_shown v position halfmove fullmove = rw (
  position,
  halfmove,
  fullmove,
  kings_quiet,
  kings_text,
  decimal_digit 0 (omega arith),
  decimal_digit 1 (omega arith),
) refl

pub look_shown : SpellsOne → (text : List ℕ) → ShowsFen look_text (codes "k7/8/8/8/8/8/8/7K w - - 0 1") false text
    → text ≡ codes "k7/8/8/8/8/8/8/7K w - - 0 1\nno check\n"
look_shown once text (v, spells, sound, shows) =
    shows ∙ kings_shown v (once (fields_of (codes "k7/8/8/8/8/8/8/7K w - - 0 1")) v.position kings spells.position kings_spelt)
    spells.halfmove.1 spells.fullmove.1

-- ---- a line of two fields

short : List ℕ
short = codes "8/8"

short_amiss : IsAmissBy short (fault.Fen fen.FieldCount)
unfolding short fourth_word word_at behind
short_amiss = refl

-- The fault of the line has no later number, and no other of its number or an earlier one applies.
short_fault : (f : EpdFault) → IsFaultOf short f → f ≡ fault.Fen fen.FieldCount
unfolding short
short_fault fault.TooLong is = absurd (omega (arith, is.applies))
short_fault fault.NotPrintable is = let no : true ≡ false = is.applies in cc
short_fault (fault.Fen fen.FieldCount) is = refl
short_fault (fault.Fen fen.BadPlacement) is = absurd (is.applies.0 short_amiss)
short_fault (fault.Fen fen.BadSide) is = absurd (is.applies.0 short_amiss)
short_fault (fault.Fen fen.BadCastling) is = absurd (is.applies.0 short_amiss)
short_fault (fault.Fen fen.BadTarget) is = absurd (is.applies.0 short_amiss)
short_fault (fault.Fen fen.BadCounter) is = absurd (is.applies.0 short_amiss)
short_fault (fault.Fen fen.BadKings) is = absurd (is.applies.0 short_amiss)
short_fault (fault.Fen fen.PawnOnEndRank) is = absurd (is.applies.0 short_amiss)
short_fault (fault.Fen fen.TooManyMen) is = absurd (is.applies.0 short_amiss)
short_fault (fault.Fen fen.RightWithoutMen) is = absurd (is.applies.0 short_amiss)
short_fault (fault.Fen fen.TargetWithoutPawn) is = absurd (is.applies.0 short_amiss)
short_fault (fault.Fen fen.OpponentInCheck) is = absurd (is.applies.0 short_amiss)
short_fault fault.BadOpcode is = absurd (is.first (fault.Fen fen.FieldCount) (omega arith) short_amiss)
short_fault fault.BadString is = absurd (is.first (fault.Fen fen.FieldCount) (omega arith) short_amiss)
short_fault fault.MissingSemicolon is = absurd (is.first (fault.Fen fen.FieldCount) (omega arith) short_amiss)
short_fault fault.DoubleOpcode is = absurd (is.first (fault.Fen fen.FieldCount) (omega arith) short_amiss)
short_fault fault.BadBound is = absurd (is.first (fault.Fen fen.FieldCount) (omega arith) short_amiss)
short_fault fault.BoundTooLarge is = absurd (is.first (fault.Fen fen.FieldCount) (omega arith) short_amiss)
short_fault fault.BadAvoid is = absurd (is.first (fault.Fen fen.FieldCount) (omega arith) short_amiss)
short_fault fault.NoMemory is = absurd is.applies

short_reply : RecordsClear → (number : ℕ) (text : List ℕ) (count : ℕ) → IsLineReply 3 number short text count
    → (text ≡ fault_line number (fault.Fen fen.FieldCount)) × (count ≡ 1)
unfolding short HasNoFault
short_reply clear number text count (skipped blank) = let no : false ≡ true = blank in cc
short_reply clear number text count (refused f words is) = (ap (fault_line number) (short_fault f is), refl)
short_reply clear number text count (answered r words reads) = absurd (clear short 3 r reads (fault.Fen fen.FieldCount) short_amiss)

blank_reply : (number : ℕ) (line text : List ℕ) (count : ℕ) → is_blank line ≡ true → IsLineReply 3 number line text count → (text ≡ []) × (count ≡ 0)
blank_reply number line text count blank (skipped same) = (refl, refl)
blank_reply number line text count blank (refused f words is) = let no : true ≡ false = sym blank ∙ words in cc
blank_reply number line text count blank (answered r words reads) = let no : true ≡ false = sym blank ∙ words in cc

-- ---- two files

one_reply : RecordsClear → (text : List ℕ) (count : ℕ) → IsReplyOn (IsLineReply 3) 1 (codes "8/8\n") text count
    → text ≡ codes "# line 1: Fen FieldCount\n"
unfolding IsReplyOn short
one_reply clear text count (first, few, more, others, reply, (second, none, last, left, blank, (nil, zero_is), is_more, all_more), is, all) =
    let line = short_reply clear 1 first few reply in
    let rest : more ≡ [] = is_more ∙ ap (λ t. t ++ last) (blank_reply 2 [] second none refl blank).0 ∙ nil in
    is ∙ rw (line.0, rest, decimal_digit 1 (omega arith)) refl

two_reply : RecordsClear → (text : List ℕ) (count : ℕ) → IsReplyOn (IsLineReply 3) 1 (codes " \n8/8") text count
    → text ≡ codes "# line 2: Fen FieldCount\n"
unfolding IsReplyOn short
two_reply clear text count (first, few, more, others, blank, (second, one, last, left, reply, (nil, zero_is), is_more, all_more), is, all) =
    let line = short_reply clear 2 second one reply in
    let none = (blank_reply 1 (codes " ") first few refl blank).0 in
    is ∙ rw (none, is_more, line.0, nil, decimal_digit 2 (omega arith)) refl

both_shown : RecordsClear → (holds : Text → Option (List ℕ)) → holds (codes "one") ≡ Some (codes "8/8\n")
    → holds (codes "two") ≡ Some (codes " \n8/8")
    → (inputs : List (List ℕ)) (text : List ℕ) (refusals : ℕ) → Holds holds (codes "one" ∷ codes "two" ∷ []) inputs
    → AreReplies (record_replies 3) 1 (codes "one" ∷ codes "two" ∷ []) inputs text refusals
    → text ≡ codes "# line 1: Fen FieldCount\n# line 2: Fen FieldCount\n"
both_shown clear holds one two [] text refusals given replies = absurd given
both_shown clear holds one two (a ∷ []) text refusals given replies = absurd given.1
both_shown clear holds one two (a ∷ b ∷ c ∷ inputs) text refusals given replies = absurd given.1.1
both_shown clear holds one two (a ∷ b ∷ []) text refusals (is_a, (is_b, end))
    (first, few, more, others, reply_a, (second, one_more, last, left, reply_b, (nil, zero_is), is_more, all_more), is, all) =
    let a_is : a ≡ codes "8/8\n" = subst (λ known. MayBe known a) one is_a in
    let b_is : b ≡ codes " \n8/8" = subst (λ known. MayBe known b) two is_b in
    let here = one_reply clear first few (subst (λ input. IsReplyOn (IsLineReply 3) 1 input first few) a_is reply_a) in
    let there = two_reply clear second one_more (subst (λ input. IsReplyOn (IsLineReply 3) 1 input second one_more) b_is reply_b) in
    is ∙ rw (here, is_more, there, nil) refl

pub solve_shown : RecordsClear → (holds : Text → Option (List ℕ)) → holds (codes "one") ≡ Some (codes "8/8\n")
    → holds (codes "two") ≡ Some (codes " \n8/8")
    → (any_refused : Bool) (text : List ℕ) → Solves holds 3 1 (codes "one" ∷ codes "two" ∷ []) any_refused text
    → text ≡ codes "# line 1: Fen FieldCount\n# line 2: Fen FieldCount\n"
solve_shown clear holds one two any_refused text shows = both_shown clear holds one two shows.inputs text shows.refusals shows.given shows.are_replies

-- ---- the program

pub look_written : SpellsOne → (holds : Text → Option (List ℕ)) (refuses : Text → Type 0) (words : List Text) (status : ℕ) (old out : List ℕ)
    → words ≡ codes "matedesk" ∷ codes "look" ∷ codes "k7/8/8/8/8/8/8/7K w - - 0 1" ∷ []
    → Ends holds refuses (asked words) status (Some old) (Some out) → old ≡ [] → status ≡ 0
    → out ≡ codes "k7/8/8/8/8/8/8/7K w - - 0 1\nno check\n"
look_written once holds refuses words status old out is ends empty done =
    let asks = ap asked is ∙ asked_look in
    let gains = (subst (λ a. Ends holds refuses a status (Some old) (Some out)) asks ends).answered done in
    gains.appends ∙ ap (λ t. t ++ gains.gained) empty ∙ look_shown once gains.gained gains.shows

pub solve_written : RecordsClear → (holds : Text → Option (List ℕ)) (refuses : Text → Type 0) (words : List Text) (status : ℕ) (old out : List ℕ)
    → holds (codes "one") ≡ Some (codes "8/8\n") → holds (codes "two") ≡ Some (codes " \n8/8")
    → words ≡ codes "matedesk" ∷ codes "solve" ∷ codes "one" ∷ codes "two" ∷ []
    → EndsBy holds refuses words status (Some old) (Some out) → old ≡ [] → status ≡ 1
    → out ≡ codes "# line 1: Fen FieldCount\n# line 2: Fen FieldCount\n"
solve_written clear holds refuses words status old out one two is ends empty done =
    let asks = ap asked is ∙ asked_solve in
    let named = of_files holds refuses words status (Some old) (Some out) (ap records_given is ∙ names_solve) ends in
    let gains = (subst (λ a. Ends (held false holds) (held_back false refuses) a status (Some old) (Some out)) asks named).refused done in
    gains.appends ∙ ap (λ t. t ++ gains.gained) empty ∙ solve_shown clear (held false holds) one two true gains.gained gains.shows

pub serve_written : RecordsClear → (holds : Text → Option (List ℕ)) (refuses : Text → Type 0) (words : List Text) (status : ℕ) (old out : List ℕ)
    → holds (codes "one") ≡ Some (codes "8/8\n") → holds (codes "two") ≡ Some (codes " \n8/8")
    → words ≡ codes "matedesk" ∷ codes "serve" ∷ codes "--workers" ∷ codes "2" ∷ codes "one" ∷ codes "two" ∷ []
    → EndsBy holds refuses words status (Some old) (Some out) → old ≡ [] → status ≡ 1
    → out ≡ codes "# line 1: Fen FieldCount\n# line 2: Fen FieldCount\n"
serve_written clear holds refuses words status old out one two is ends empty done =
    let asks = ap asked is ∙ asked_serve in
    let named = of_files holds refuses words status (Some old) (Some out) (ap records_given is ∙ names_serve) ends in
    let gains = (subst (λ a. Ends (held false holds) (held_back false refuses) a status (Some old) (Some out)) asks named).refused done in
    gains.appends ∙ ap (λ t. t ++ gains.gained) empty ∙ solve_shown clear (held false holds) one two true gains.gained gains.shows.solves
