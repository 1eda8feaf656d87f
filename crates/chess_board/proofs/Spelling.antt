-- A text spells one position at most, and what is printed spells what it was printed for.
use Rattle.std.proofs.Common.{◌≡◌, ◌∙◌, ℕ, ◌≤◌, List, [], ◌∷◌, ◌++◌, length, slice_index_or, refl, ap, sym, subst, append_assoc, ◌==◌}
use Rattle.std.specs.Prelude.{decimal}
use Rattle.std.proofs.lemmas.List.Splits.{slice_split_at, slice_split_none}
use Rattle.chess_board.specs.Positions.{Setup}
use Rattle.chess_board.specs.Placement.{placement_text}
use Rattle.chess_board.specs.Fields.{side_text, castling_text, target_text, SpellsTarget, SpellsCounter}
use Rattle.chess_board.specs.Soundness.{IsSound}
use Rattle.chess_board.specs.Fens.{FenValue, Fields, SpellsSetup, Spells, parts, fields_of, position_text, fen_text}
use Rattle.chess_board.proofs.FieldTexts.{IsSpaceless, side_once, target_once, side_spaceless, castling_spaceless, target_spaceless}
use Rattle.chess_board.proofs.FieldTexts.{counter_spaceless, castling_spelt, castling_read, counter_read}
use Rattle.chess_board.proofs.Targets.{target_on}
use Rattle.chess_board.proofs.PlacementOnce.{placement_once, placement_has_no_space}

-- the first four of some parts
abbrev pub fields_in : List (List ℕ) → Fields
fields_in ps = record {
  placement = slice_index_or ps 0 [];
  side = slice_index_or ps 1 [];
  castling = slice_index_or ps 2 [];
  target = slice_index_or ps 3 [];
}

-- A text in six parts is spelt by what they spell.
pub spells_of : (text a b c d e g : List ℕ) (f : FenValue) → parts text ≡ a ∷ b ∷ c ∷ d ∷ e ∷ g ∷ []
    → SpellsSetup (record { placement = a; side = b; castling = c; target = d }) f.position → SpellsCounter e f.halfmove → SpellsCounter g f.fullmove
    → Spells text f
spells_of text a b c d e g f six position half full = record {
  six = ap length six;
  position = subst (λ ps. SpellsSetup (fields_in ps) f.position) (sym six) position;
  halfmove = subst (λ ps. SpellsCounter (slice_index_or ps 4 []) f.halfmove) (sym six) half;
  fullmove = subst (λ ps. SpellsCounter (slice_index_or ps 5 []) f.fullmove) (sym six) full;
}

pub setup_once : (f : Fields) (p q : Setup) → SpellsSetup f p → SpellsSetup f q → p ≡ q
setup_once f p q a b =
    let men : p.men ≡ q.men = placement_once p.men q.men a.placement.0 b.placement.0 (sym a.placement.1 ∙ b.placement.1) in
    let side : p.side ≡ q.side = side_once p.side q.side (sym a.side ∙ b.side) in
    let rights : p.rights ≡ q.rights = a.castling.1 ∙ sym b.castling.1 in
    let target : p.target ≡ q.target =
    target_once q.side p.target q.target f.target (subst (λ s. SpellsTarget s f.target p.target) side a.target) b.target in
    λ i. record { men = men i; side = side i; rights = rights i; target = target i }

pub spelt_once : (text : List ℕ) (f g : FenValue) → Spells text f → Spells text g → f ≡ g
spelt_once text f g a b =
    let position : f.position ≡ g.position = setup_once (fields_of text) f.position g.position a.position b.position in
    let halfmove : f.halfmove ≡ g.halfmove = a.halfmove.1 ∙ sym b.halfmove.1 in
    let fullmove : f.fullmove ≡ g.fullmove = a.fullmove.1 ∙ sym b.fullmove.1 in
    λ i. record { position = position i; halfmove = halfmove i; fullmove = fullmove i }

-- Cutting at the spaces undoes putting them in.
cut_once : (a rest : List ℕ) (more : List (List ℕ)) → IsSpaceless a → parts rest ≡ more → parts (a ++ 32 ∷ rest) ≡ a ∷ more
cut_once a rest more h e = slice_split_at (λ b. b == 32) a 32 rest h refl ∙ ap (λ ps. a ∷ ps) e

parts_joined : (a b c d e g : List ℕ) → IsSpaceless a → IsSpaceless b → IsSpaceless c → IsSpaceless d → IsSpaceless e → IsSpaceless g
    → parts (a ++ 32 ∷ (b ++ 32 ∷ (c ++ 32 ∷ (d ++ 32 ∷ (e ++ 32 ∷ g))))) ≡ a ∷ b ∷ c ∷ d ∷ e ∷ g ∷ []
parts_joined a b c d e g ha hb hc hd he hg =
    cut_once a _ _ ha (cut_once b _ _ hb (cut_once c _ _ hc (cut_once d _ _ hd (cut_once e _ _ he (slice_split_none (λ b. b == 32) g hg)))))

-- the fields as they are printed, regrouped
glue : (x y z : List ℕ) → (x ++ 32 ∷ y) ++ z ≡ x ++ (32 ∷ (y ++ z))
glue x y z = append_assoc x (32 ∷ y) z

regroup : (a b c d e g : List ℕ) → (a ++ 32 ∷ b ++ 32 ∷ c ++ 32 ∷ d) ++ 32 ∷ e ++ 32 ∷ g
    ≡ a ++ (32 ∷ (b ++ (32 ∷ (c ++ (32 ∷ (d ++ (32 ∷ (e ++ (32 ∷ g)))))))))
regroup a b c d e g =
    let after_d : List ℕ = 32 ∷ (e ++ (32 ∷ g)) in
    let after_c : List ℕ = 32 ∷ (d ++ after_d) in
    let after_b : List ℕ = 32 ∷ (c ++ after_c) in
    glue (a ++ 32 ∷ b ++ 32 ∷ c ++ 32 ∷ d) e (32 ∷ g) ∙ glue (a ++ 32 ∷ b ++ 32 ∷ c) d after_d ∙ glue (a ++ 32 ∷ b) c after_c ∙ glue a b after_b

-- The text that is printed is cut into its six fields.
pub printed_parts : (f : FenValue) → f.halfmove ≤ 9999 → f.fullmove ≤ 9999 → parts (fen_text f)
    ≡ placement_text f.position.men ∷ side_text f.position.side ∷ castling_text f.position.rights ∷ target_text f.position.target
    ∷ decimal f.halfmove ∷ decimal f.fullmove ∷ []
unfolding fen_text position_text
printed_parts f half full =
    let a = placement_text f.position.men in
    let b = side_text f.position.side in
    let c = castling_text f.position.rights in
    let d = target_text f.position.target in
    ap parts (regroup a b c d (decimal f.halfmove) (decimal f.fullmove)) ∙ parts_joined a b c d (decimal f.halfmove) (decimal f.fullmove)
    (placement_has_no_space f.position.men) (side_spaceless f.position.side)
    (castling_spaceless f.position.rights) (target_spaceless f.position.target)
    (counter_spaceless f.halfmove half) (counter_spaceless f.fullmove full)

-- The text that is printed for a FEN of a sound position spells it.
pub printed_spells : (f : FenValue) → IsSound f.position → f.halfmove ≤ 9999 → f.fullmove ≤ 9999 → Spells (fen_text f) f
printed_spells f sound half full =
    spells_of (fen_text f) (placement_text f.position.men) (side_text f.position.side)
    (castling_text f.position.rights) (target_text f.position.target)
    (decimal f.halfmove) (decimal f.fullmove) f (printed_parts f half full)
    (record {
      placement = (sound.squares, refl);
      side = refl;
      castling = (castling_spelt f.position.rights, castling_read f.position.rights);
      target = (target_on f.position sound.target, refl);
    })
    (counter_read f.halfmove half) (counter_read f.fullmove full)
