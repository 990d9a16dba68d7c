-- What a fault of reading is.
use Rattle.std.specs.declared.option.Option.{Option}
use Rattle.std.specs.declared.option.Option.TheVariants.{None, Some}
use Rattle.script_text.specs.declared.fault.ScriptRefusal.{ScriptRefusal}
use Rattle.script_text.specs.declared.fault.ScriptFault.{ScriptFault}
use Rattle.script_text.specs.declared.fault.ScriptFault.TheVariants.{Refused, NoMemory}

-- the refusal that a fault is, if it is one
abbrev pub refusal_of : ScriptFault → Option ScriptRefusal
refusal_of (Refused r) = Some r
refusal_of NoMemory = None
