-- Between crates: the numbers of a program's nodes, and how far they are made.
use Rattle.std.specs.Prelude.{◌≡◌, ℕ, ◌+◌, ◌-◌, ◌≤◌, ◌++◌, length}
use Rattle.kr_types.specs.declared.program.Program.{Program}
use Rattle.kr_code_lowering.specs.declared.numbering.NodeNumbers.{NodeNumbers}
use Rattle.kr_code_lowering.specs.Origins.{coded_count, counted, file_count, marks, marks_from, numbers_from, others_from}

-- these are the numbers of all nodes
pub record AreNumbers (p : Program) (ns : NodeNumbers) : Type 0 where
  pub all : ns.all.items ≡ numbers_from 0 (others_from p) (marks p)
  pub coded : ns.coded ≡ coded_count p

-- so many nodes of code are those of the files before place k
abbrev pub IsCodedTo : Program → ℕ → ℕ → Type 0
IsCodedTo p k count = count + counted (marks_from p k (file_count p - k)) ≡ coded_count p

-- these are the numbers of the nodes before place k, where those of nodes without code begin with o
pub record AreBegun (p : Program) (o k : ℕ) (ns : NodeNumbers) : Type 0 where
  pub long : length ns.all.items ≡ k
  pub few : ns.coded ≤ k
  pub coded : IsCodedTo p k ns.coded
  pub numbers : ns.all.items ++ numbers_from ns.coded (o + k) (marks_from p k (file_count p - k)) ≡ numbers_from 0 o (marks p)
