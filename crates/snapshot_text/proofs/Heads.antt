-- Heads: the lines at the front of a snapshot, one behind the other.
use Rattle.std.proofs.Common.{◌≡◌, ℕ, ◌^◌, Bool, List, ◌++◌, ap, sym, ◌∙◌, arith, append_assoc, codes}
use Rattle.sched_time.specs.declared.policies.Policies.{Policies}
use Rattle.trace_text.specs.Reading.{Any, IsRead, IsUnread}
use Rattle.trace_text.proofs.Parts.{IsOnce}
use Rattle.snapshot_text.specs.declared.head.Head.{Head}
use Rattle.snapshot_text.specs.Spelling.{FitTwo, FitsHead, flag_text, head_text, number_text, policies_text, run_text, shut_text, size_text, time_text}
use Rattle.snapshot_text.proofs.Both.{BothFit, both_once, both_read, both_text, no_first, no_other}
use Rattle.snapshot_text.proofs.Fields.{behind_word, fit_within, flag_once, once_behind, once_within, two_once}

-- ---- each line is read once

pub run_once : IsOnce run_text (FitTwo (2 ^ 64) (2 ^ 64))
run_once = two_once (codes "lines ") (codes " written ") (codes "\n") (λ r. omega (arith, r)) (omega arith) (λ r. omega (arith, r)) (omega arith)

-- numbers of workers and of slots that may be greater
pub sizes_once : IsOnce size_text (FitTwo (2 ^ 64) (2 ^ 64))
sizes_once = two_once (codes "workers ") (codes " slots ") (codes "\n") (λ r. omega (arith, r)) (omega arith) (λ r. omega (arith, r)) (omega arith)

pub size_within : (v : ℕ × ℕ) → FitTwo (2 ^ 8) (2 ^ 32) v → FitTwo (2 ^ 64) (2 ^ 64) v
size_within = fit_within (2 ^ 8) (2 ^ 32) (omega arith) (omega arith)

pub size_once : IsOnce size_text (FitTwo (2 ^ 8) (2 ^ 32))
size_once = once_within size_text (FitTwo (2 ^ 64) (2 ^ 64)) (FitTwo (2 ^ 8) (2 ^ 32)) size_within sizes_once

pub time_once : IsOnce time_text (FitTwo (2 ^ 64) (2 ^ 64))
time_once = two_once (codes "moment ") (codes " earliest ") (codes "\n") (λ r. omega (arith, r)) (omega arith) (λ r. omega (arith, r)) (omega arith)

pub number_once : IsOnce number_text (FitTwo (2 ^ 64) (2 ^ 64))
number_once = two_once (codes "numbers ") (codes " accepted ") (codes "\n") (λ r. omega (arith, r)) (omega arith) (λ r. omega (arith, r)) (omega arith)

-- ---- the policies

-- as three flags
abbrev pub flags_text : Bool × (Bool × Bool) → List ℕ
flags_text = both_text (flag_text (codes "continue ")) (both_text (flag_text (codes "execute ")) (flag_text (codes "remove ")))

abbrev pub flags_of : Policies → Bool × (Bool × Bool)
flags_of p = (p.continues, (p.executes, p.removes))

-- three flags that are not there are no policies
pub no_policies : (text : List ℕ) → IsUnread flags_text (BothFit Any (BothFit Any Any)) text → IsUnread policies_text Any text
no_policies text never p tail f h = never (flags_of p) tail (tt, (tt, tt)) h

pub flags_once : IsOnce flags_text (BothFit Any (BothFit Any Any))
flags_once =
    both_once (flag_text (codes "continue ")) Any (both_text (flag_text (codes "execute ")) (flag_text (codes "remove "))) (BothFit Any Any) (flag_once (codes "continue "))
    (both_once (flag_text (codes "execute ")) Any (flag_text (codes "remove ")) Any (flag_once (codes "execute ")) (flag_once (codes "remove ")))

pub policies_once : IsOnce policies_text Any
policies_once p q s t f g h =
    let r = flags_once (flags_of p) (flags_of q) s t (tt, (tt, tt)) (tt, (tt, tt)) h in
    (λ i. record { continues = (r.0 i).0; executes = (r.0 i).1.0; removes = (r.0 i).1.1 }, r.1)

-- ---- how far the executor is shut

pub shut_once : IsOnce shut_text Any
shut_once v u s t f g h =
    both_once (flag_text (codes "shut ")) Any (flag_text (codes "stopped ")) Any (flag_once (codes "shut ")) (flag_once (codes "stopped ")) v u s t (tt, tt) (tt, tt) h

-- ---- the whole

-- policies, and how far it is shut
abbrev pub last_text : Policies × (Bool × Bool) → List ℕ
last_text = both_text policies_text shut_text

abbrev pub LastFit : Policies × (Bool × Bool) → Type 0
LastFit = BothFit Any Any

-- numbers, and these
abbrev pub from_numbers : (ℕ × ℕ) × (Policies × (Bool × Bool)) → List ℕ
from_numbers = both_text number_text last_text

abbrev pub NumbersFit : (ℕ × ℕ) × (Policies × (Bool × Bool)) → Type 0
NumbersFit = BothFit (FitTwo (2 ^ 64) (2 ^ 64)) LastFit

abbrev pub from_time : (ℕ × ℕ) × ((ℕ × ℕ) × (Policies × (Bool × Bool))) → List ℕ
from_time = both_text time_text from_numbers

abbrev pub TimeFit : (ℕ × ℕ) × ((ℕ × ℕ) × (Policies × (Bool × Bool))) → Type 0
TimeFit = BothFit (FitTwo (2 ^ 64) (2 ^ 64)) NumbersFit

abbrev pub from_size : (ℕ × ℕ) × ((ℕ × ℕ) × ((ℕ × ℕ) × (Policies × (Bool × Bool)))) → List ℕ
from_size = both_text size_text from_time

abbrev pub SizeFit : (ℕ × ℕ) × ((ℕ × ℕ) × ((ℕ × ℕ) × (Policies × (Bool × Bool)))) → Type 0
SizeFit = BothFit (FitTwo (2 ^ 8) (2 ^ 32)) TimeFit

abbrev pub from_run : (ℕ × ℕ) × ((ℕ × ℕ) × ((ℕ × ℕ) × ((ℕ × ℕ) × (Policies × (Bool × Bool))))) → List ℕ
from_run = both_text run_text from_size

abbrev pub RunFit : (ℕ × ℕ) × ((ℕ × ℕ) × ((ℕ × ℕ) × ((ℕ × ℕ) × (Policies × (Bool × Bool))))) → Type 0
RunFit = BothFit (FitTwo (2 ^ 64) (2 ^ 64)) SizeFit

-- the parts of a head
abbrev pub parts_of : Head → (ℕ × ℕ) × ((ℕ × ℕ) × ((ℕ × ℕ) × ((ℕ × ℕ) × (Policies × (Bool × Bool)))))
parts_of h = ((h.lines, h.written), ((h.table.workers, h.table.slots), ((h.table.moment, h.earliest), ((h.count, h.accepted), (h.table.policies, (h.table.shut, h.table.stopped))))))

-- parts that are not there are no head
pub no_head : (text rest : List ℕ) → text ≡ codes "sched snapshot 1\n" ++ rest → IsUnread from_run RunFit rest → IsUnread head_text FitsHead text
no_head text rest is never h tail f q =
    behind_word (codes "sched snapshot 1\n") from_run RunFit text rest is never (parts_of h) tail (f.run, (f.size, (f.time, (f.numbers, (tt, tt))))) q

-- each line but the ones named is there, and the next is not
pub no_run : (rest : List ℕ) → IsUnread run_text (FitTwo (2 ^ 64) (2 ^ 64)) rest → IsUnread from_run RunFit rest
no_run rest never = no_first run_text (FitTwo (2 ^ 64) (2 ^ 64)) from_size SizeFit rest never

pub past_run : (rest behind : List ℕ) (run : ℕ × ℕ) → IsRead run_text (FitTwo (2 ^ 64) (2 ^ 64)) rest run behind → IsUnread from_size SizeFit behind → IsUnread from_run RunFit rest
past_run rest behind run read never = no_other run_text (FitTwo (2 ^ 64) (2 ^ 64)) from_size SizeFit rest behind run run_once read never

pub no_size : (rest : List ℕ) → IsUnread size_text (FitTwo (2 ^ 8) (2 ^ 32)) rest → IsUnread from_size SizeFit rest
no_size rest never = no_first size_text (FitTwo (2 ^ 8) (2 ^ 32)) from_time TimeFit rest never

pub past_size : (rest behind : List ℕ) (size : ℕ × ℕ) → IsRead size_text (FitTwo (2 ^ 8) (2 ^ 32)) rest size behind → IsUnread from_time TimeFit behind → IsUnread from_size SizeFit rest
past_size rest behind size read never = no_other size_text (FitTwo (2 ^ 8) (2 ^ 32)) from_time TimeFit rest behind size size_once read never

pub no_time : (rest : List ℕ) → IsUnread time_text (FitTwo (2 ^ 64) (2 ^ 64)) rest → IsUnread from_time TimeFit rest
no_time rest never = no_first time_text (FitTwo (2 ^ 64) (2 ^ 64)) from_numbers NumbersFit rest never

pub past_time : (rest behind : List ℕ) (time : ℕ × ℕ) → IsRead time_text (FitTwo (2 ^ 64) (2 ^ 64)) rest time behind → IsUnread from_numbers NumbersFit behind → IsUnread from_time TimeFit rest
past_time rest behind time read never = no_other time_text (FitTwo (2 ^ 64) (2 ^ 64)) from_numbers NumbersFit rest behind time time_once read never

pub no_numbers : (rest : List ℕ) → IsUnread number_text (FitTwo (2 ^ 64) (2 ^ 64)) rest → IsUnread from_numbers NumbersFit rest
no_numbers rest never = no_first number_text (FitTwo (2 ^ 64) (2 ^ 64)) last_text LastFit rest never

pub past_numbers : (rest behind : List ℕ) (numbers : ℕ × ℕ) → IsRead number_text (FitTwo (2 ^ 64) (2 ^ 64)) rest numbers behind → IsUnread last_text LastFit behind → IsUnread from_numbers NumbersFit rest
past_numbers rest behind numbers read never = no_other number_text (FitTwo (2 ^ 64) (2 ^ 64)) last_text LastFit rest behind numbers number_once read never

pub no_last : (rest : List ℕ) → IsUnread policies_text Any rest → IsUnread last_text LastFit rest
no_last rest never = no_first policies_text Any shut_text Any rest never

pub past_policies : (rest behind : List ℕ) (policies : Policies) → IsRead policies_text Any rest policies behind → IsUnread shut_text Any behind → IsUnread last_text LastFit rest
past_policies rest behind policies read never = no_other policies_text Any shut_text Any rest behind policies policies_once read never

-- all are there
pub head_read : (text a b c d e f tail : List ℕ) (h : Head) → text ≡ codes "sched snapshot 1\n" ++ a → IsRead run_text (FitTwo (2 ^ 64) (2 ^ 64)) a (h.lines, h.written) b
    → IsRead size_text (FitTwo (2 ^ 8) (2 ^ 32)) b (h.table.workers, h.table.slots) c → IsRead time_text (FitTwo (2 ^ 64) (2 ^ 64)) c (h.table.moment, h.earliest) d
    → IsRead number_text (FitTwo (2 ^ 64) (2 ^ 64)) d (h.count, h.accepted) e → IsRead policies_text Any e h.table.policies f → IsRead shut_text Any f (h.table.shut, h.table.stopped) tail
    → IsRead head_text FitsHead text h tail
head_read text a b c d e f tail h is run size time numbers policies ends =
    let last : IsRead last_text LastFit e (h.table.policies, (h.table.shut, h.table.stopped)) tail = both_read policies_text Any shut_text Any e f tail h.table.policies (h.table.shut, h.table.stopped) policies ends in
    let four : IsRead from_numbers NumbersFit d ((h.count, h.accepted), (h.table.policies, (h.table.shut, h.table.stopped))) tail = both_read number_text (FitTwo (2 ^ 64) (2 ^ 64)) last_text LastFit d e tail _ _ numbers last in
    let three : IsRead from_time TimeFit c ((h.table.moment, h.earliest), ((h.count, h.accepted), (h.table.policies, (h.table.shut, h.table.stopped)))) tail = both_read time_text (FitTwo (2 ^ 64) (2 ^ 64)) from_numbers NumbersFit c d tail _ _ time four in
    let two : IsRead from_size SizeFit b ((h.table.workers, h.table.slots), ((h.table.moment, h.earliest), ((h.count, h.accepted), (h.table.policies, (h.table.shut, h.table.stopped))))) tail = both_read size_text (FitTwo (2 ^ 8) (2 ^ 32)) from_time TimeFit b c tail _ _ size three in
    let one : IsRead from_run RunFit a (parts_of h) tail = both_read run_text (FitTwo (2 ^ 64) (2 ^ 64)) from_size SizeFit a b tail _ _ run two in
    (record { run = run.0; size = size.0; time = time.0; numbers = numbers.0 }, is ∙ (ap (λ l. codes "sched snapshot 1\n" ++ l) one.1 ∙ sym (append_assoc (codes "sched snapshot 1\n") (from_run (parts_of h)) tail)))

-- ---- once

last_once : IsOnce last_text LastFit
last_once = both_once policies_text Any shut_text Any policies_once shut_once

run_parts_once : IsOnce from_run RunFit
run_parts_once =
    both_once run_text (FitTwo (2 ^ 64) (2 ^ 64)) from_size SizeFit run_once
    (both_once size_text (FitTwo (2 ^ 8) (2 ^ 32)) from_time TimeFit size_once
    (both_once time_text (FitTwo (2 ^ 64) (2 ^ 64)) from_numbers NumbersFit time_once
    (both_once number_text (FitTwo (2 ^ 64) (2 ^ 64)) last_text LastFit number_once last_once)))

fits_parts : (h : Head) → FitsHead h → RunFit (parts_of h)
fits_parts h f = (f.run, (f.size, (f.time, (f.numbers, (tt, tt)))))

abbrev head_of : (ℕ × ℕ) × ((ℕ × ℕ) × ((ℕ × ℕ) × ((ℕ × ℕ) × (Policies × (Bool × Bool))))) → Head
head_of v = record {
  lines = v.0.0;
  written = v.0.1;
  table = record {
    moment = v.1.1.0.0;
    workers = v.1.0.0;
    slots = v.1.0.1;
    policies = v.1.1.1.1.0;
    shut = v.1.1.1.1.1.0;
    stopped = v.1.1.1.1.1.1;
  };
  earliest = v.1.1.0.1;
  count = v.1.1.1.0.0;
  accepted = v.1.1.1.0.1;
}

-- one head alone stands at the front
pub head_once : IsOnce head_text FitsHead
head_once h k s t p q is =
    let r = once_behind (codes "sched snapshot 1\n") from_run RunFit run_parts_once (parts_of h) (parts_of k) s t (fits_parts h p) (fits_parts k q) is in
    (ap head_of r.0, r.1)
