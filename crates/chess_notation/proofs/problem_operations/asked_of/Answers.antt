use Rattle.std.proofs.Common.{not, Bor, ◌≡◌, ℕ, ◌∷◌, List, true, false, Option, Some, None, refl, length, ap, sym, ◌∙◌, arith}
use Rattle.std.specs.List.{list_all}
use Rattle.std.specs.Option.{option_map_or, is_some}
use Rattle.std.proofs.lemmas.Bool.{and_parts}
use Rattle.std.proofs.lemmas.List.{length-append}
use Rattle.chess_notation.specs.Words.{behind as behind_word}
use Rattle.chess_notation.specs.Segments.{Segments, segments_of}
use Rattle.chess_notation.specs.EpdFaults.{is_bound_segment, is_avoid_segment, has_number_if_bound, is_small_if_bound}
use Rattle.chess_notation.specs.inside.RecordReading.{bound_said, avoid_text_in}
use Rattle.chess_notation.proofs.WordLists.{behind_within}
use Rattle.chess_notation.proofs.problem_operations.asked_of.Goals as goal

pub loop-segment-preserved-then-is_avoid_segment : goal.loop-segment-preserved-then-is_avoid_segment
unfolding bound_said avoid_text_in
loop-segment-preserved-then-is_avoid_segment c =
    let segment = c.in-Some.segment.now in
    let back = (segments_of c.in-Some.back.now).ended in
    let ended : (segments_of c.loop-segment.rest.now).ended ≡ segment ∷ back = ap (λ (cut : Segments). cut.ended) c.in-Some.ensures.cut in
    let other : is_bound_segment segment ≡ false = sym c.is_bound_segment.ensures ∙ c.if-is_bound_segment.false in
    let asks : is_avoid_segment segment ≡ true = sym c.is_avoid_segment.ensures ∙ c.if-is_avoid_segment.true in
    let parts = ap length c.in-Some.ensures.parts ∙ length-append segment (59 ∷ c.in-Some.back.now) in
    let here = ap length c.word_at.ensures.rest in
    let bound_back : bound_said (segments_of c.loop-segment.rest.now).ended c.args.default ≡ bound_said back c.args.default =
    ap (λ ps. bound_said ps c.args.default) ended ∙ rw other refl in
    let small_back : list_all is_small_if_bound (segments_of c.loop-segment.rest.now).ended ≡ list_all is_small_if_bound back =
    ap (list_all is_small_if_bound) ended ∙ rw other refl in
    let found : avoid_text_in (segments_of c.loop-segment.rest.now).ended ≡ Some (behind_word segment) = ap avoid_text_in ended ∙ rw asks refl in
    record {
      bound = ap (λ n. option_map_or (λ b. b) c.loop-segment.bound n) (sym bound_back) ∙ c.loop-segment.invariant.bound;
      avoid = ap Some c.word_at.ensures.rest ∙ sym found
          ∙ nothing_yet c.loop-segment.avoid (c.is_none.ensures ∙ ap not c.if-is_none.true) ∙ c.loop-segment.invariant.avoid;
      numbers = (and_parts (has_number_if_bound segment) (list_all has_number_if_bound back)
          (sym (ap (list_all has_number_if_bound) ended) ∙ c.loop-segment.invariant.numbers)).1;
      small = sym small_back ∙ c.loop-segment.invariant.small;
      shorter = omega (arith, parts, here, behind_within segment, c.loop-segment.invariant.within);
      within = omega (arith, parts, c.loop-segment.invariant.within);
    } where
      nothing_yet : (found : Option (Bor (List ℕ))) → is_some found ≡ false
          → avoid_text_in (segments_of c.loop-segment.rest.now).ended
          ≡ option_map_or (λ words. Some words.now) found (avoid_text_in (segments_of c.loop-segment.rest.now).ended)
      nothing_yet None h = refl
      nothing_yet (Some words) h = cc
