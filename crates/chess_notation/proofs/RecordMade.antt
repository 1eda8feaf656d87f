-- The record that is made of a line without a fault is the one that the line says.
use Rattle.std.proofs.Common.{◌≡◌, ℕ, List, [], Option, Some, None, true, false, ap, sym, ◌∙◌, subst, arith}
use Rattle.std.specs.List.{list_all}
use Rattle.std.specs.Option.{option_map_or}
use Rattle.chess_board.specs.Positions.{Setup}
use Rattle.chess_board.specs.Soundness.{IsSound}
use Rattle.chess_board.specs.Fens.{SpellsSetup}
use Rattle.chess_board.specs.Moves.{Move}
use Rattle.chess_moves.specs.Laws.{LegalListed}
use Rattle.chess_notation.specs.declared.epd_faults.EpdFault.TheVariants.{BoundTooLarge, BadAvoid}
use Rattle.chess_notation.specs.Segments.{segments_of}
use Rattle.chess_notation.specs.Operations.{Entry}
use Rattle.chess_notation.specs.RecordFields.{line_fields, operations_in, cut_of}
use Rattle.chess_notation.specs.EpdFaults.{are_distinct, is_small_if_bound, are_names, has_names_if_avoid, IsFaultOf}
use Rattle.chess_notation.specs.inside.RecordReading.{IsClearTo, bound_said, avoid_text_in, avoid_in, rest_of}
use Rattle.chess_notation.specs.Words.{words_in}
use Rattle.chess_notation.specs.AvoidMoves.{named}
use Rattle.chess_notation.specs.Records.{RecordValue, Reads}
use Rattle.chess_notation.proofs.LineReads.{no_fault_reads}
use Rattle.chess_notation.proofs.ShownAvoided.{names_by_first}

-- what is known of a line, the position that it spells, and the text of its operations
pub record IsChecked (line text : List ℕ) (p : Setup) : Type 0 where
  pub text_is : text ≡ operations_in line
  pub clear : IsClearTo 9 line
  pub spelt : SpellsSetup (line_fields line) p
  pub sound : IsSound p
  pub names : list_all (has_names_if_avoid p) (segments_of text).ended ≡ true

-- what is made of them
abbrev pub made : List ℕ → Setup → ℕ → RecordValue
made text p default =
    record {
      position = p;
      bound = bound_said (segments_of text).ended default;
      avoid = avoid_in p (segments_of text).ended;
      rest = rest_of (segments_of text).ended;
    }

pub made_reads : LegalListed → (line text : List ℕ) (p : Setup) (default : ℕ) → IsChecked line text p → Reads line default (made text p default)
unfolding cut_of
made_reads listed line text p default is =
    let names : list_all (has_names_if_avoid p) (cut_of line).ended ≡ true =
    sym (ap (λ t. list_all (has_names_if_avoid p) (segments_of t).ended) is.text_is) ∙ is.names in
    subst (λ (t : List ℕ). Reads line default (made t p default)) (sym is.text_is)
    (no_fault_reads listed line default p is.clear is.spelt is.sound names)

-- So is the same with its parts under other names.
pub made_as : LegalListed → (line text : List ℕ) (p : Setup) (default bound : ℕ) (avoid : List Move) (rest : List Entry) → IsChecked line text p
    → bound ≡ bound_said (segments_of text).ended default → avoid ≡ avoid_in p (segments_of text).ended → rest ≡ rest_of (segments_of text).ended
    → Reads line default (record { position = p; bound = bound; avoid = avoid; rest = rest })
made_as listed line text p default bound avoid rest is bound_is avoid_is rest_is =
    let same : made text p default ≡ record { position = p; bound = bound; avoid = avoid; rest = rest } =
    λ i. record { position = p; bound = sym bound_is i; avoid = sym avoid_is i; rest = sym rest_is i } in
    subst (λ (r : RecordValue). Reads line default r) same (made_reads listed line text p default is)

-- A line whose moves to avoid are not named has that fault, and no other before it.
pub avoid_is_fault : (line text : List ℕ) (p : Setup) → IsClearTo 9 line → SpellsSetup (line_fields line) p → text ≡ operations_in line
    → list_all (has_names_if_avoid p) (segments_of text).ended ≡ false → IsFaultOf line BadAvoid
unfolding IsClearTo cut_of
avoid_is_fault line text p clear spelt text_is none = record {
  applies = (p, spelt, sym (ap (λ t. list_all (has_names_if_avoid p) (segments_of t).ended) text_is) ∙ none);
  first = λ earlier before. clear earlier (omega (arith, before));
}

-- Nor has a line of which a bound is too large another before it.
pub large_is_fault : (line text : List ℕ) → IsClearTo 8 line → text ≡ operations_in line → list_all is_small_if_bound (segments_of text).ended ≡ false
    → IsFaultOf line BoundTooLarge
unfolding IsClearTo cut_of
large_is_fault line text clear text_is large = record {
  applies = sym (ap (λ t. list_all is_small_if_bound (segments_of t).ended) text_is) ∙ large;
  first = λ earlier before. clear earlier (omega (arith, before));
}

-- What stands behind `am` says which moves are to be avoided, and whether it names moves.
pub asked_names : (p : Setup) (segments : List (List ℕ)) (words : List ℕ) → are_distinct segments ≡ true → avoid_text_in segments ≡ Some words
    → list_all (has_names_if_avoid p) segments ≡ are_names p words
asked_names p segments words distinct there =
    names_by_first p segments distinct ∙ ap (λ (t : Option (List ℕ)). option_map_or (are_names p) t true) there

pub unasked_names : (p : Setup) (segments : List (List ℕ)) → are_distinct segments ≡ true → avoid_text_in segments ≡ None
    → list_all (has_names_if_avoid p) segments ≡ true
unasked_names p segments distinct none = names_by_first p segments distinct ∙ ap (λ (t : Option (List ℕ)). option_map_or (are_names p) t true) none

pub asked_moves : (p : Setup) (segments : List (List ℕ)) (words : List ℕ) → avoid_text_in segments ≡ Some words
    → named p (words_in words) ≡ avoid_in p segments
unfolding avoid_in
asked_moves p segments words there = ap (λ (t : Option (List ℕ)). option_map_or (λ text. named p (words_in text)) t []) (sym there)

pub unasked_moves : (p : Setup) (segments : List (List ℕ)) → avoid_text_in segments ≡ None → [] ≡ avoid_in p segments
unfolding avoid_in
unasked_moves p segments none = ap (λ (t : Option (List ℕ)). option_map_or (λ text. named p (words_in text)) t []) (sym none)
