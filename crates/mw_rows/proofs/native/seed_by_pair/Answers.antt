use Rattle.std.proofs.Common.{◌≡◌, ◌++◌, List, [], ◌∷◌, rules, sym, ◌∙◌}
use Rattle.mw_rules.specs.Rule.{Rule, always, has}
use Rattle.mw_multi.specs.Steps.{rule_list}
use Rattle.mw_rows.proofs.native.seed_by_pair.Goals as goal

abbrev swords : List Rule
swords = always ∷ has 0 1 ∷ has 0 1 ∷ []

abbrev keys : List Rule
keys = has 0 1 ∷ always ∷ has 0 1 ∷ []

pub new-told-requires-clause-told : goal.new-told-requires-clause-told
new-told-requires-clause-told c = (
  swords,
  record {
    names = c.in_ok-named.ensures.names;
    answers = (
      record { callable = λ counts places within. search rules; answer = λ counts places r within post. search rules },
      (
        record { callable = λ counts places within. search rules; answer = λ counts places r within post. search rules },
        (record { callable = λ counts places within. search rules; answer = λ counts places r within post. search rules }, tt),
      ),
    );
  },
)

pub generate_by-requires-clause-rules : goal.generate_by-requires-clause-rules
generate_by-requires-clause-rules c =
    let known : rule_list c.args.joint.now ≡ swords ++ keys = search rules in
    let second : rule_list c.args.second.now ≡ keys = search rules in
    let told = c.new-told.ensures swords record {
      names = c.in_ok-named.ensures.names;
      answers = (
        record { callable = λ counts places within. search rules; answer = λ counts places r within post. search rules },
        (
          record { callable = λ counts places within. search rules; answer = λ counts places r within post. search rules },
          (record { callable = λ counts places within. search rules; answer = λ counts places r within post. search rules }, tt),
        ),
      );
    } in
    rw known ((c.in-Ok.ensures.rules swords keys told (sym (c.in_ok-trees.ensures ∙ second))).1)
