-- How a refusal is printed.
use Rattle.std.specs.Prelude.{ℕ, List, [], ◌∷◌, ◌++◌, codes, decimal}
use Rattle.mw_json.specs.declared.refusal.Kind.{Kind}
use Rattle.mw_json.specs.declared.refusal.Kind.TheVariants.{NoJson, TooDeep, MissingField, NotWhole, WrongKind, TooMany, NameTooLong, RuleTooLarge, OtherFormat, DuplicateName, DuplicateId, UnknownName, RuleItemNotProgression, WrongOrder}
use Rattle.mw_json.specs.declared.refusal.Step.{Step}
use Rattle.mw_json.specs.declared.refusal.Step.TheVariants.{Name, Index}

abbrev pub kind_text : Kind → List ℕ
kind_text NoJson = codes "NoJson"
kind_text TooDeep = codes "TooDeep"
kind_text MissingField = codes "MissingField"
kind_text NotWhole = codes "NotWhole"
kind_text WrongKind = codes "WrongKind"
kind_text TooMany = codes "TooMany"
kind_text NameTooLong = codes "NameTooLong"
kind_text RuleTooLarge = codes "RuleTooLarge"
kind_text OtherFormat = codes "OtherFormat"
kind_text DuplicateName = codes "DuplicateName"
kind_text DuplicateId = codes "DuplicateId"
kind_text UnknownName = codes "UnknownName"
kind_text RuleItemNotProgression = codes "RuleItemNotProgression"
kind_text WrongOrder = codes "WrongOrder"

-- a member's name raw, a list's index in decimal
abbrev pub step_text : Step → List ℕ
step_text (Name name) = name
step_text (Index i) = decimal i

-- each step after a slash, the outermost first
abbrev pub steps_text : List Step → List ℕ
steps_text [] = []
steps_text (step ∷ outer) = steps_text outer ++ codes "/" ++ step_text step

-- a slash for the whole text
abbrev pub path_text : List Step → List ℕ
path_text [] = codes "/"
path_text (step ∷ outer) = steps_text (step ∷ outer)
