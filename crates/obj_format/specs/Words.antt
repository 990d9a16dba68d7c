-- The words and the numbers of the reasons.
use Rattle.std.specs.Prelude.{ℕ, List, codes}
use Rattle.obj_format.specs.declared.obj_fault.ObjWhy.{ObjWhy}
use Rattle.obj_format.specs.declared.obj_fault.ObjWhy.TheVariants.{BadNumber, OffGrid, OutOfGrid, BadIndex, TooShort}
use Rattle.obj_format.specs.declared.obj_fault.ObjWhy.TheVariants.{TooLong, Repeated, UnknownWord, FreeForm, TooMany}
use Rattle.obj_format.specs.declared.obj_fault.ObjWhy.TheVariants.{TooLarge, NotText, NotYet}

-- a reason is printed as its name
abbrev pub why_text : ObjWhy → List ℕ
why_text BadNumber = codes "BadNumber"
why_text OffGrid = codes "OffGrid"
why_text OutOfGrid = codes "OutOfGrid"
why_text BadIndex = codes "BadIndex"
why_text TooShort = codes "TooShort"
why_text TooLong = codes "TooLong"
why_text Repeated = codes "Repeated"
why_text UnknownWord = codes "UnknownWord"
why_text FreeForm = codes "FreeForm"
why_text TooMany = codes "TooMany"
why_text TooLarge = codes "TooLarge"
why_text NotText = codes "NotText"
why_text NotYet = codes "NotYet"

-- the number of a reason
abbrev pub why_code : ObjWhy → ℕ
why_code BadNumber = 1
why_code OffGrid = 2
why_code OutOfGrid = 3
why_code BadIndex = 4
why_code TooShort = 5
why_code TooLong = 6
why_code Repeated = 7
why_code UnknownWord = 8
why_code FreeForm = 9
why_code TooMany = 10
why_code TooLarge = 11
why_code NotText = 12
why_code NotYet = 13
