-- What the eight cases of width and rule hold.
use Rattle.std.specs.Prelude.{ℕ, ℤ, List}
use Rattle.cust_data.specs.declared.rule.Rule.{Rule}
use Rattle.cust_data.specs.declared.rule.Rule.TheVariants.{Mix, Copy}
use Rattle.cust_data.specs.declared.cells.Cells.{Cells}
use Rattle.cust_data.specs.declared.cells.Cells.TheVariants.{Mix1, Mix2, Mix3, Mix4, Copy1, Copy2, Copy3, Copy4}

-- the numbers of each place
abbrev pub numbers_of : Cells → List (List ℤ)
numbers_of (Mix1 c) = c
numbers_of (Mix2 c) = c
numbers_of (Mix3 c) = c
numbers_of (Mix4 c) = c
numbers_of (Copy1 c) = c
numbers_of (Copy2 c) = c
numbers_of (Copy3 c) = c
numbers_of (Copy4 c) = c

-- how many numbers a place has
abbrev pub width_of : Cells → ℕ
width_of (Mix1 c) = 1
width_of (Mix2 c) = 2
width_of (Mix3 c) = 3
width_of (Mix4 c) = 4
width_of (Copy1 c) = 1
width_of (Copy2 c) = 2
width_of (Copy3 c) = 3
width_of (Copy4 c) = 4

-- how they are mixed
abbrev pub rule_of : Cells → Rule
rule_of (Mix1 c) = Mix
rule_of (Mix2 c) = Mix
rule_of (Mix3 c) = Mix
rule_of (Mix4 c) = Mix
rule_of (Copy1 c) = Copy
rule_of (Copy2 c) = Copy
rule_of (Copy3 c) = Copy
rule_of (Copy4 c) = Copy
