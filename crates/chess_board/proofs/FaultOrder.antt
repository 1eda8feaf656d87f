-- The first fault in a list.
use Rattle.std.proofs.Common.{List, [], ◌∷◌, ◌++◌, inl, inr}
use Rattle.chess_board.specs.declared.faults.FenFault.{FenFault}
use Rattle.chess_board.specs.Faults.{IsFirst}

-- none of these faults applies
abbrev pub NoneOf : (FenFault → Type 0) → List FenFault → Type 0
NoneOf applies [] = Unit {0}
NoneOf applies (next ∷ later) = ¬ (applies next) × NoneOf applies later

pub first_in_front : (A : FenFault → Type 0) (front back : List FenFault) (fault : FenFault) → IsFirst A front fault → IsFirst A (front ++ back) fault
first_in_front A [] back fault h = absurd h
first_in_front A (next ∷ later) back fault (inl here) = inl here
first_in_front A (next ∷ later) back fault (inr behind) = inr (behind.0, first_in_front A later back fault behind.1)

pub first_behind : (A : FenFault → Type 0) (front back : List FenFault) (fault : FenFault) → NoneOf A front
    → IsFirst A back fault → IsFirst A (front ++ back) fault
first_behind A [] back fault none h = h
first_behind A (next ∷ later) back fault none h = inr (none.0, first_behind A later back fault none.1 h)

-- The first of faults that apply by one measure is the first by another that says the same of each.
pub first_alike : (A B : FenFault → Type 0) (faults : List FenFault) (fault : FenFault) → ((f : FenFault) → A f → B f)
    → ((f : FenFault) → B f → A f) → IsFirst A faults fault → IsFirst B faults fault
first_alike A B [] fault to from h = absurd h
first_alike A B (next ∷ later) fault to from (inl here) = inl (to next here.0, here.1)
first_alike A B (next ∷ later) fault to from (inr behind) = inr ((λ b. behind.0 (from next b)), first_alike A B later fault to from behind.1)

pub none_first : (A : FenFault → Type 0) (faults : List FenFault) (fault : FenFault) → NoneOf A faults → IsFirst A faults fault → ⊥
none_first A [] fault none h = h
none_first A (next ∷ later) fault none (inl here) = none.0 here.0
none_first A (next ∷ later) fault none (inr behind) = none_first A later fault none.1 behind.1

pub none_alike : (A B : FenFault → Type 0) (faults : List FenFault) → ((f : FenFault) → A f → B f) → NoneOf B faults → NoneOf A faults
none_alike A B [] to none = tt
none_alike A B (next ∷ later) to none = ((λ a. none.0 (to next a)), none_alike A B later to none.1)

pub none_joined : (A : FenFault → Type 0) (front back : List FenFault) → NoneOf A front → NoneOf A back → NoneOf A (front ++ back)
none_joined A [] back none more = more
none_joined A (next ∷ later) back none more = (none.0, none_joined A later back none.1 more)
