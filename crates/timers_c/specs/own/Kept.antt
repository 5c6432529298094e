-- How a slot sees what it keeps.
use base.Stored.{Coded}
use Rattle.std.specs.Prelude.{false, []}
use Rattle.sched_time.specs.Policies.{default_policies}
use Rattle.timers_c.specs.Seen.{Seen}
use Rattle.timers_c.specs.Slots.{SessionRow}

-- the code of a session, as the logic sees it
abbrev pub seen_coded : Coded Seen
seen_coded = SessionRow.coded

-- what stands for the session of an empty slot
abbrev pub no_session : Seen
no_session = record {
  timers = record {
    live = record {
      table = record { moment = 0; slots = []; work = []; policies = default_policies; shut = false; stopped = false };
      count = 0;
      accepted = 0;
      earliest = 0;
      ended = [];
    };
    user_data = [];
  };
  lines = [];
}
