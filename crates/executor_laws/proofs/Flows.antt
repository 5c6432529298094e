-- The happenings of events have one history that means the calls, and happenings that may come have one.
use Rattle.std.proofs.Common.{[], ◌∙◌, sym, append-nil}
use Rattle.executor_model.specs.Flows.{history_from, history_of}
use Rattle.executor_laws.specs.Laws.{OneHistory, FlowsAreAnswered}
use Rattle.executor_model.proofs.Flowing.{flow_means, flow_happens, one_answer, happenings_from, may_mean}

-- some events have one history
pub one_history : OneHistory
one_history calls workers events o = (
  flow_means calls workers events o,
  flow_happens calls workers events,
  λ past m q. one_answer calls workers past (history_of calls workers events) m (flow_means calls workers events o) (q ∙ sym (flow_happens calls workers events)),
)

-- happenings of which each may come where it stands have a history
pub flows_are_answered : FlowsAreAnswered
flows_are_answered calls workers hs may = (history_from calls workers [] hs, happenings_from calls workers [] hs ∙ append-nil hs, may_mean calls workers hs may)
