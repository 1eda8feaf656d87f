-- How many entries a cache keeps after a look-up and after a put.
use Rattle.std.proofs.Common.{◌≡◌, ◌+◌, ◌-◌, ◌≤◌, Bool, true, false, cond, List, [], ◌∷◌, length, take, Option, Some, None, refl, arith}
use Rattle.std.specs.Option.{option_map_or}
use Rattle.std.specs.Map.{lookup_entry, remove_entry}
use Rattle.std.proofs.lemmas.List.{length-take}
use Rattle.lru.specs.LruCache.{LruCache, promoted, put_entries}

module _ {K V : Type 0} (test : K → Bool) where
  length-removed : (es : List (K × V)) (e : K × V) → lookup_entry test es ≡ Some e → length (remove_entry test es) + 1 ≡ length es
  length-removed [] e h = cc
  length-removed (f ∷ es) e h = (elim (test f.0) as (λ b. test f.0 ≡ b → length (cond b es (f ∷ remove_entry test es)) + 1 ≡ length (f ∷ es)) [
    | true ↦ λ t. omega arith
    | false ↦ λ t. let rest = length-removed es e (rw t at h) in omega (arith, rest)
  ]) refl

  to_front : (es : List (K × V)) (o : Option (K × V)) → lookup_entry test es ≡ o
      → length (option_map_or (λ e. e ∷ remove_entry test es) o es) ≡ length es
  to_front es None h = refl
  to_front es (Some e) h = omega (arith, length-removed es e h)

  pub length-promoted : (es : List (K × V)) → length (promoted test es) ≡ length es
  length-promoted es = to_front es (lookup_entry test es) refl

module _ {K V : Type 0} (eq : K → K → Bool) (c : LruCache K V) (k : K) (v : V) where
  put_there : (o : Option (K × V)) → lookup_entry (eq k) c.entries ≡ o → length c.entries ≤ c.cap → 1 ≤ c.cap
      → length (option_map_or (λ e. (e.0, v) ∷ remove_entry (eq k) c.entries) o ((k, v) ∷ take (c.cap - 1) c.entries)) ≤ c.cap
  put_there None h few some = omega (arith, length-take (c.cap - 1) c.entries)
  put_there (Some e) h few some = omega (arith, length-removed (eq k) c.entries e h)

  pub put_within : length c.entries ≤ c.cap → 1 ≤ c.cap → length (put_entries eq c k v) ≤ c.cap
  put_within few some = put_there (lookup_entry (eq k) c.entries) refl few some
