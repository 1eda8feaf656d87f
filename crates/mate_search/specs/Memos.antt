-- What a memo is to its callers, and its faults as printed.
use Rattle.std.specs.Prelude.{ℕ, List, codes}
use Rattle.mate_search.specs.declared.memo.MemoFault.{MemoFault}
use Rattle.mate_search.specs.declared.memo.MemoFault.TheVariants.{BadSize, NoMemory}

-- how many entries a memo keeps, and how many it has room for
pub record MemoValue : Type 0 where
  pub kept : ℕ
  pub room : ℕ

-- the most entries of a large memo
abbrev pub max_large_entries : ℕ
max_large_entries = 268435456

abbrev pub memo_fault_name : MemoFault → List ℕ
memo_fault_name BadSize = codes "BadSize"
memo_fault_name NoMemory = codes "NoMemory"
