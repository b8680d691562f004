use Rattle.scf_compare.proofs.by_number.ByNumber.step_from.Goals as goal

pub returns-in-Number-clause-step : goal.returns-in-Number-clause-step
returns-in-Number-clause-step g c = λ others some. rw c.in-Number.is (c.ask_number.ensures.step others)

-- a condition is asked whatever the store allows
pub returns-in-Condition-clause-step : goal.returns-in-Condition-clause-step
returns-in-Condition-clause-step g c = λ others some.
    let step = c.ask_condition.ensures.step others in
    rw c.in-Condition.is (record {
      proper = step.proper;
      leads = λ words given. step.leads words given.0;
      costs = step.costs;
      plain = step.plain;
    })
