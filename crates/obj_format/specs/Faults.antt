-- What a fault of reading is.
use Rattle.std.specs.declared.option.Option.{Option}
use Rattle.std.specs.declared.option.Option.TheVariants.{None, Some}
use Rattle.obj_format.specs.declared.obj_fault.ObjRefusal.{ObjRefusal}
use Rattle.obj_format.specs.declared.obj_fault.ObjFault.{ObjFault}
use Rattle.obj_format.specs.declared.obj_fault.ObjFault.TheVariants.{Refused, NoMemory}

-- the refusal that a fault is, if it is one
abbrev pub refusal_of : ObjFault → Option ObjRefusal
refusal_of (Refused r) = Some r
refusal_of NoMemory = None
