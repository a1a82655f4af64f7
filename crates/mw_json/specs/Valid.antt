-- What a text's reading keeps.
use Rattle.mw_model.specs.Json.{Json, null, flag, whole, not_whole, numeral, words, many, members, Items, no_items, item, Members, no_members, member, ComeAfter, IsInRange, IsNumeral}

-- whole numbers from -2^63 to 2^64 - 1, and each object's members strictly ascending in byte order of their names
abbrev mutual
  pub IsValid : Json → Type 0
  IsValid null = Unit {0}
  IsValid (flag b) = Unit {0}
  IsValid (whole z) = IsInRange z
  IsValid not_whole = Unit {0}
  IsValid (numeral s) = IsNumeral s
  IsValid (words s) = Unit {0}
  IsValid (many js) = ItemsAreValid js
  IsValid (members ms) = MembersAreValid ms

  pub ItemsAreValid : Items → Type 0
  ItemsAreValid no_items = Unit {0}
  ItemsAreValid (item j js) = IsValid j × ItemsAreValid js

  pub MembersAreValid : Members → Type 0
  MembersAreValid no_members = Unit {0}
  MembersAreValid (member k j ms) = IsValid j × ComeAfter k ms × MembersAreValid ms
