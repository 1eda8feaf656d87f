use Rattle.std.proofs.Common.{◌≡◌, ◌∙◌, ◌+◌, ℕ, List, [], ◌∷◌, ◌++◌, length, length-append, append_assoc, ap, sym, refl, arith}
use Rattle.text_lines.specs.Lines.{lines_of}
use Rattle.desk_room.specs.inside.Submitters.{HasHandled, IsAt}
use Rattle.desk_room.specs.declared.serving.submitters.Submitter.{Submitter}
use Rattle.desk_room.proofs.RingEnds.{same_window}
use Rattle.desk_room.proofs.Collecting.{window_then}
use Rattle.desk_room.proofs.serving.submitters.Submitter.hand_in_all.Goals as goal

-- one line more is handled
one_further : (input rest line more : List ℕ) (number : ℕ) (c d : Submitter) → lines_of rest ≡ line ∷ lines_of more
    → ((lines : List (List ℕ)) → length lines + 1 ≡ number → HasHandled lines c → HasHandled (lines ++ line ∷ []) d)
    → IsAt input rest number c → IsAt input more (number + 1) d
one_further input rest line more number c d cut handled at = record {
  lines = at.lines ++ line ∷ [];
  next = omega (arith, at.next, length-append at.lines (line ∷ []));
  split = at.split ∙ (ap (λ (ls : List (List ℕ)). at.lines ++ ls) cut ∙ sym (append_assoc at.lines (line ∷ []) (lines_of more)));
  handled = handled at.lines at.next at.handled;
}

pub loop-number-init : goal.loop-number-init
loop-number-init g c = record {
  window = same_window c.args.self.now.window;
  few = omega (arith, c.requires.none);
  at = record { lines = []; next = refl; split = refl; handled = c.requires.handled };
}

pub loop-number-preserved : goal.loop-number-preserved
loop-number-preserved g c =
    let i = c.loop-number.invariant in
    let e = c.in_ok-hand_in-in-Some.ensures in
    record {
      window = window_then c.args.self.now.window c.loop-number.self.window c.hand_in.new.self.window i.window e.window;
      few = omega (arith, i.few, e.few);
      at = one_further _ _ _ _ c.loop-number.number c.loop-number.self c.hand_in.new.self c.in-Some.ensures.cut e.handled i.at;
    }
