-- For proofs alone. What each form of a rule as it is written stands for.
use Rattle.std.proofs.Common.{◌≡◌, ℕ, List, ap, sym, ◌∙◌}
use Rattle.mw_tables.specs.Raw as meaning
use Rattle.mw_tables.specs.RawView.{rule_step, raw_view, raw_rules_view}
use Rattle.mw_tables.specs.declared.raw_rule.RawRule.{RawRule, fold-roll-RawRule}
use Rattle.mw_tables.specs.declared.raw_rule.RawRule.TheOpen.{RawRule-F}
use Rattle.mw_tables.specs.declared.raw_rule.RawRule.TheVariants.{Always, rolls-Always, Never, rolls-Never, Has, rolls-Has, HasAll, rolls-HasAll, HasAny, rolls-HasAny, Count, rolls-Count, Region, rolls-Region, Location, rolls-Location, And, rolls-And, Or, rolls-Or}

pub raw_view_of_always : raw_view Always ≡ meaning.always
raw_view_of_always =
    ap raw_view (sym rolls-Always) ∙ fold-roll-RawRule meaning.RawRule rule_step RawRule-F.Always

pub raw_view_of_never : raw_view Never ≡ meaning.never
raw_view_of_never =
    ap raw_view (sym rolls-Never) ∙ fold-roll-RawRule meaning.RawRule rule_step RawRule-F.Never

pub raw_view_of_has : (item : List ℕ) (count : ℕ)
    → raw_view (Has item count) ≡ meaning.has item count
raw_view_of_has item count =
    ap raw_view (sym (rolls-Has item count)) ∙ fold-roll-RawRule meaning.RawRule rule_step
    (RawRule-F.Has item count)

pub raw_view_of_has_all : (items : List (List ℕ)) → raw_view (HasAll items) ≡ meaning.has_all items
raw_view_of_has_all items =
    ap raw_view (sym (rolls-HasAll items)) ∙ fold-roll-RawRule meaning.RawRule rule_step
    (RawRule-F.HasAll items)

pub raw_view_of_has_any : (items : List (List ℕ)) → raw_view (HasAny items) ≡ meaning.has_any items
raw_view_of_has_any items =
    ap raw_view (sym (rolls-HasAny items)) ∙ fold-roll-RawRule meaning.RawRule rule_step
    (RawRule-F.HasAny items)

pub raw_view_of_count : (items : List (List ℕ)) (at_least : ℕ)
    → raw_view (Count items at_least) ≡ meaning.has_count items at_least
raw_view_of_count items at_least =
    ap raw_view (sym (rolls-Count items at_least)) ∙ fold-roll-RawRule meaning.RawRule rule_step
    (RawRule-F.Count items at_least)

pub raw_view_of_region : (name : List ℕ) → raw_view (Region name) ≡ meaning.reach_region name
raw_view_of_region name =
    ap raw_view (sym (rolls-Region name)) ∙ fold-roll-RawRule meaning.RawRule rule_step
    (RawRule-F.Region name)

pub raw_view_of_location : (name : List ℕ) → raw_view (Location name) ≡ meaning.reach_location name
raw_view_of_location name =
    ap raw_view (sym (rolls-Location name)) ∙ fold-roll-RawRule meaning.RawRule rule_step
    (RawRule-F.Location name)

pub raw_view_of_and : (rules : List RawRule)
    → raw_view (And rules) ≡ meaning.all_of (raw_rules_view rules)
raw_view_of_and rules =
    ap raw_view (sym (rolls-And rules)) ∙ fold-roll-RawRule meaning.RawRule rule_step
    (RawRule-F.And rules)

pub raw_view_of_or : (rules : List RawRule)
    → raw_view (Or rules) ≡ meaning.some_of (raw_rules_view rules)
raw_view_of_or rules =
    ap raw_view (sym (rolls-Or rules)) ∙ fold-roll-RawRule meaning.RawRule rule_step
    (RawRule-F.Or rules)
