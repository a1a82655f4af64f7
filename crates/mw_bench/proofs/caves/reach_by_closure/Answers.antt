use Rattle.std.proofs.Common.{rules}
use Rattle.mw_bench.specs.Rules.{our_rules}
use Rattle.mw_bench.proofs.caves.reach_by_closure.Goals as goal

-- the closure answers the rules of the caves
pub new-rules-requires-clause-told : goal.new-rules-requires-clause-told
new-rules-requires-clause-told c = (
  our_rules,
  record {
    names = c.in_ok-named.ensures.names;
    answers = (
      record { callable = λ counts places within. search rules; answer = λ counts places answer within post. search rules },
      (
        record { callable = λ counts places within. search rules; answer = λ counts places answer within post. search rules },
        (
          record { callable = λ counts places within. search rules; answer = λ counts places answer within post. search rules },
          (
            record { callable = λ counts places within. search rules; answer = λ counts places answer within post. search rules },
            (record { callable = λ counts places within. search rules; answer = λ counts places answer within post. search rules }, tt),
          ),
        ),
      ),
    );
  },
)

-- and these are the joint's
pub reach_times-requires : goal.reach_times-requires
reach_times-requires c = record {
  rules = rw c.requires (c.new-rules.ensures our_rules record {
    names = c.in_ok-named.ensures.names;
    answers = (
      record { callable = λ counts places within. search rules; answer = λ counts places answer within post. search rules },
      (
        record { callable = λ counts places within. search rules; answer = λ counts places answer within post. search rules },
        (
          record { callable = λ counts places within. search rules; answer = λ counts places answer within post. search rules },
          (
            record { callable = λ counts places within. search rules; answer = λ counts places answer within post. search rules },
            (record { callable = λ counts places within. search rules; answer = λ counts places answer within post. search rules }, tt),
          ),
        ),
      ),
    );
  });
}
