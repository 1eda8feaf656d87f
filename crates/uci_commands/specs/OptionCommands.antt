-- The option that a command sets: what the words behind `setoption` say (UCI, April 2006).
use Rattle.std.specs.Prelude.{ℕ, ◌&&◌, List, [], ◌∷◌, Option, None, Some, codes, nat_le, option_map, if◌then◌else◌}
use Rattle.std.specs.Str.{str_eq_ignore_ascii_case}
use Rattle.uci_commands.specs.Marks.{behind, number_behind}
use Rattle.uci_commands.specs.declared.option_commands.Setting.{Setting}
use Rattle.uci_commands.specs.declared.option_commands.Setting.TheVariants.{Value, OutOfRange}
use Rattle.uci_commands.specs.declared.option_commands.Spin.{Spin}
use Rattle.uci_commands.specs.declared.option_commands.Spin.TheVariants.{Hash, Bound, MultiPv}

abbrev pub spin_name : Spin → List ℕ
spin_name Hash = codes "Hash"
spin_name Bound = codes "Bound"
spin_name MultiPv = codes "MultiPV"

-- its greatest value; the least is 1
abbrev pub most : Spin → ℕ
most Hash = 10
most Bound = 15
most MultiPv = 64

-- the option that a word names, in whichever case its letters are
unfoldable pub spin_named : List (List ℕ) → Option Spin
spin_named [] = None
spin_named (word ∷ words) =
    if str_eq_ignore_ascii_case word (spin_name Hash) then Some Hash
    else if str_eq_ignore_ascii_case word (spin_name Bound) then Some Bound
    else if str_eq_ignore_ascii_case word (spin_name MultiPv) then Some MultiPv
    else None

-- an option with a number, or none, where there is none from 1 to its greatest
unfoldable pub valued : Option ℕ → Spin → Setting
valued None spin = OutOfRange spin
valued (Some value) spin = if nat_le 1 value && nat_le value (most spin) then Value spin value else OutOfRange spin

-- the option that `name` names, with the number behind `value`; none of another name
unfoldable pub setting_of : List (List ℕ) → Option Setting
setting_of words = option_map (valued (number_behind (codes "value") words)) (spin_named (behind (codes "name") words))
