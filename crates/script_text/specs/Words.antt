-- The words and the numbers of the reasons.
use Rattle.std.specs.Prelude.{ℕ, List, codes}
use Rattle.script_text.specs.declared.fault.ScriptWhy.{ScriptWhy}
use Rattle.script_text.specs.declared.fault.ScriptWhy.TheVariants.{NotText, UnknownWord, MissingArgument, TwiceGiven}
use Rattle.script_text.specs.declared.fault.ScriptWhy.TheVariants.{BadNumber, BadExpression, Rebound, TooMany}
use Rattle.script_text.specs.declared.fault.ScriptWhy.TheVariants.{LateLayer, TooLarge, BadLayer, NotYet}

-- the word that a report has for a reason
abbrev pub why_text : ScriptWhy → List ℕ
why_text NotText = codes "NotText"
why_text UnknownWord = codes "UnknownWord"
why_text MissingArgument = codes "MissingArgument"
why_text TwiceGiven = codes "TwiceGiven"
why_text BadNumber = codes "BadNumber"
why_text BadExpression = codes "BadExpression"
why_text Rebound = codes "Rebound"
why_text TooMany = codes "TooMany"
why_text LateLayer = codes "LateLayer"
why_text TooLarge = codes "TooLarge"
why_text BadLayer = codes "BadLayer"
why_text NotYet = codes "NotYet"

-- the number of a reason
abbrev pub why_code : ScriptWhy → ℕ
why_code NotText = 1
why_code UnknownWord = 2
why_code MissingArgument = 3
why_code TwiceGiven = 4
why_code BadNumber = 5
why_code BadExpression = 6
why_code Rebound = 7
why_code TooMany = 8
why_code LateLayer = 9
why_code TooLarge = 10
why_code BadLayer = 11
why_code NotYet = 12
