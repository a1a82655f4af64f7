use Rattle.std.proofs.Common.{◌≡◌, List, [], ◌∷◌, rules}
use Rattle.mw_rules.specs.Rule.{Rule, always, has}
use Rattle.mw_multi.specs.Steps.{rule_list}
use Rattle.mw_rows.proofs.native.seed_by_closure.Goals as goal

abbrev swords : List Rule
swords = always ∷ has 0 1 ∷ has 0 1 ∷ []

pub new-rules-requires-clause-told : goal.new-rules-requires-clause-told
new-rules-requires-clause-told c = (
  swords,
  record {
    names = c.in_ok-named.ensures.names;
    answers = (
      record { callable = λ counts places within. search rules; answer = λ counts places r within post. search rules },
      (
        record { callable = λ counts places within. search rules; answer = λ counts places r within post. search rules },
        (record { callable = λ counts places within. search rules; answer = λ counts places r within post. search rules }, tt),
      ),
    );
  },
)

pub generate_by-requires-clause-rules : goal.generate_by-requires-clause-rules
generate_by-requires-clause-rules c =
    let known : rule_list c.args.joint.now ≡ swords = search rules in
    rw known (c.new-rules.ensures swords record {
      names = c.in_ok-named.ensures.names;
      answers = (
        record { callable = λ counts places within. search rules; answer = λ counts places r within post. search rules },
        (
          record { callable = λ counts places within. search rules; answer = λ counts places r within post. search rules },
          (record { callable = λ counts places within. search rules; answer = λ counts places r within post. search rules }, tt),
        ),
      );
    })
