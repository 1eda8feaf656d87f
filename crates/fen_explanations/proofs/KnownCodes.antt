-- Explanations of all codes that there are, of which nothing else is said.
use Rattle.std.proofs.Common.{◌≡◌, ◌∙◌, ℕ, List, [], ◌∷◌, None, ap, map, refl}
use Rattle.std.specs.Borrow.{Bor}
use Rattle.fault_explanations.specs.Explained.{AreOfKnown, codes_of, known_codes}
use Rattle.fault_explanations.specs.declared.explanations.Explanation.{Explanation}

abbrev lent : {A : Type 0} → A → Bor A
lent a = record { ref_ptr = (0, 0); now = a }

abbrev explained : List ℕ → Explanation
explained code = record { code = lent code; comes = lent []; means = lent []; example = None }

abbrev group_of : List (List ℕ) → Bor (List Explanation)
group_of codes = lent (map explained codes)

codes_kept : (codes : List (List ℕ)) → codes_of (map explained codes) ≡ codes
codes_kept [] = refl
codes_kept (code ∷ codes) = ap (λ rest. code ∷ rest) (codes_kept codes)

groups_kept : (groups : List (List (List ℕ))) → map (λ g. codes_of g.now) (map group_of groups) ≡ groups
groups_kept [] = refl
groups_kept (codes ∷ groups) =
    ap (λ first. first ∷ map (λ g. codes_of g.now) (map group_of groups)) (codes_kept codes) ∙ ap (λ rest. codes ∷ rest) (groups_kept groups)

abbrev pub some_groups : List (Bor (List Explanation))
some_groups = map group_of known_codes

pub are_known : AreOfKnown some_groups
are_known = groups_kept known_codes
