-- A problem over the numbers of names, and the data over the names.
use Rattle.std.specs.Prelude.{◌≡◌, ℕ, ◌↔◌, List, map, Contains}
use Rattle.std.specs.List.{AllByRecursion}
use Rattle.mine_model.specs.declared.item.Item.{Item}
use Rattle.mine_model.specs.declared.fault.Fault.{Fault}
use Rattle.mine_model.specs.declared.fault.Fault.TheVariants.{Read, TooLarge as DataTooLarge, BadByte as DataBadByte, NameTooLong as DataNameTooLong, BadProof as DataBadProof, NoMemory as DataNoMemory}
use Rattle.mine_model.specs.declared.fault.Which.TheVariants.{Proof}
use Rattle.mine_model.specs.Answer.{Data}
use Rattle.mine_model.specs.Expression.{tree_by}
use Rattle.mine_model.specs.Hierarchy.{IsAncestor}
use Rattle.mine_model.specs.Names.{name_of, HasName, AreNamed, sequence_by}
use Rattle.mine_model.specs.Numbered.{tree_of}
use Rattle.mining_job.specs.Problems.{Problem, data_of}
use Rattle.pattern_proof.specs.declared.fault.ProofFault.{ProofFault}
use Rattle.pattern_proof.specs.declared.fault.ProofFault.TheVariants.{ReadFault, TooLarge, BadByte, NameTooLong, BadProof, NoMemory}
use Rattle.pattern_proof.specs.ProofLines.{AreFileNames}

-- The problem is that of the data by the numbers of their names, and the names are the known ones.
pub record IsNumbering (d : Data (List ℕ)) (known names : List (List ℕ)) (problem : Problem) : Type 0 where
  pub files : AreFileNames names
  pub held : (name : List ℕ) → (Contains known name ↔ Contains names name)
  pub named : AreNamed names (data_of problem)
  pub sequences : map (sequence_by (name_of names)) problem.sequences ≡ d.sequences
  pub expression : tree_by (name_of names) (tree_of problem.transducer.expression) ≡ d.expression
  pub threshold : problem.threshold ≡ d.threshold
  pub above : (w t : Item) → HasName names w → HasName names t
      → (IsAncestor problem.hierarchy.links w t ↔ IsAncestor d.links (name_of names w) (name_of names t))
  pub parents : AllByRecursion (λ link. Contains names link.parent) d.links

-- what a fault of a check is called where it is told with those of other files
abbrev pub fault_of : ProofFault → Fault
fault_of ReadFault = Read Proof
fault_of TooLarge = DataTooLarge Proof
fault_of (BadByte line column) = DataBadByte Proof line column
fault_of (NameTooLong line column) = DataNameTooLong Proof line column
fault_of (BadProof line) = DataBadProof line
fault_of NoMemory = DataNoMemory

-- the items of all sequences, and what stands above other items, are among the names
pub record AreKnown (known : List (List ℕ)) (d : Data (List ℕ)) : Type 0 where
  pub parents : AllByRecursion (λ link. Contains known link.parent) d.links
  pub sequences : AllByRecursion (λ sequence. AllByRecursion (Contains known) sequence.items) d.sequences
