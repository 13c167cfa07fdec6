-- How an error reports the first rule that groups break.
use Rattle.std.specs.Prelude.{◌≡◌, Option, Some, None, string_bytes, ⊤}
use Rattle.search_types.specs.declared.group_info_error.GroupInfoError.{GroupInfoError}
use Rattle.search_types.specs.declared.group_info_error.GroupInfoError.TheVariants as error
use Rattle.search_types.specs.declared.broken_rules.BrokenRule.{BrokenRule}
use Rattle.search_types.specs.declared.broken_rules.BrokenRule.TheVariants as rule
use Rattle.search_types.specs.GroupFaults as fault
use Rattle.search_types.specs.GroupFaults.{GroupFault}

-- what may run out of memory: to accept groups without a fault, and to report a name that occurs twice; every other fault is
-- reported without an allocation
abbrev pub TakesMemory : Option GroupFault → Type 0
TakesMemory None = ⊤
TakesMemory (Some (fault.TooManyPatterns attempted)) = ⊥
TakesMemory (Some (fault.TooManyGroups pattern minimum)) = ⊥
TakesMemory (Some (fault.MissingGroups pattern)) = ⊥
TakesMemory (Some (fault.FirstMustBeUnnamed pattern)) = ⊥
TakesMemory (Some (fault.Duplicate pattern name)) = ⊤

-- the error reports this fault, or that memory ran out, which is possible only for what takes memory
abbrev pub ReportsFaultOf : GroupInfoError → Option GroupFault → Type 0
ReportsFaultOf (error.TooManyPatterns attempted) found = found ≡ Some (fault.TooManyPatterns attempted)
ReportsFaultOf (error.TooManyGroups pattern minimum) found = found ≡ Some (fault.TooManyGroups pattern minimum)
ReportsFaultOf (error.MissingGroups pattern) found = found ≡ Some (fault.MissingGroups pattern)
ReportsFaultOf (error.FirstMustBeUnnamed pattern) found = found ≡ Some (fault.FirstMustBeUnnamed pattern)
ReportsFaultOf (error.Duplicate pattern name) found = found ≡ Some (fault.Duplicate pattern (string_bytes name))
ReportsFaultOf error.NoMemory found = TakesMemory found

-- the fault that a broken rule is
abbrev pub fault_of : BrokenRule → GroupFault
fault_of (rule.TooManyPatterns attempted) = fault.TooManyPatterns attempted
fault_of (rule.TooManyGroups pattern minimum) = fault.TooManyGroups pattern minimum
fault_of (rule.MissingGroups pattern) = fault.MissingGroups pattern
fault_of (rule.FirstMustBeUnnamed pattern) = fault.FirstMustBeUnnamed pattern
fault_of (rule.Duplicate pattern name) = fault.Duplicate pattern name.now
