-- The fault of a run that a refusal of its hierarchy is.
use Rattle.mine_model.specs.declared.fault.Fault.{Fault}
use Rattle.mine_model.specs.declared.fault.Fault.TheVariants.{BadByte, Cycle, TooLarge, NameTooLong, TooManyItems, TooManyAncestors, Read, NoMemory}
use Rattle.mine_model.specs.declared.fault.Which.TheVariants.{Hierarchy}
use Rattle.item_hierarchy.specs.declared.hierarchy_fault.HierarchyFault.{HierarchyFault}
use Rattle.item_hierarchy.specs.declared.hierarchy_fault.HierarchyFault.TheVariants as hierarchy
use Rattle.item_hierarchy.specs.declared.hierarchy_fault.CloseFault.{CloseFault}
use Rattle.item_hierarchy.specs.declared.hierarchy_fault.CloseFault.TheVariants as close

abbrev pub fault_of_hierarchy : HierarchyFault → Fault
fault_of_hierarchy hierarchy.ReadFault = Read Hierarchy
fault_of_hierarchy hierarchy.TooLarge = TooLarge Hierarchy
fault_of_hierarchy (hierarchy.BadByte line column) = BadByte Hierarchy line column
fault_of_hierarchy (hierarchy.NameTooLong line column) = NameTooLong Hierarchy line column
fault_of_hierarchy (hierarchy.TooManyItems line) = TooManyItems Hierarchy line
fault_of_hierarchy hierarchy.NoMemory = NoMemory

abbrev pub fault_of_close : CloseFault → Fault
fault_of_close (close.Cycle line) = Cycle line
fault_of_close close.TooManyAncestors = TooManyAncestors
fault_of_close close.NoMemory = NoMemory
