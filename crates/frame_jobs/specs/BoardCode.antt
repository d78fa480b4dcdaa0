-- How the logic stores what a board is seen as.
use Rattle.std.specs.Prelude.{◌≡◌, ℕ, zero, suc, List, refl}
use Rattle.std.specs.Coded.{Coded, code_by, coded×, coded_ℕ, coded_list}
use Rattle.job_core.specs.declared.names.JobName.{JobName}
use Rattle.job_core.specs.declared.names.JobName.TheVariants.{Logic, Think, Path, Draw}
use Rattle.job_core.specs.declared.names.Event.{Event}
use Rattle.job_core.specs.declared.names.Event.TheVariants.{Start, Resume, Ask, Spread, Hold, Finish, Emit, Stop}
use Rattle.job_scheduler.specs.Numbers.{Numbers}
use Rattle.job_scheduler.specs.Logged.{Logged}
use Rattle.frame_jobs.specs.Boards.{FrameBoard}

abbrev pub JobNumbers : Type 0
JobNumbers = ℕ × (ℕ × (ℕ × ℕ))

abbrev pub job_numbers : JobName → JobNumbers
job_numbers (Logic f) = (0, (f, (0, 0)))
job_numbers (Think f a) = (1, (f, (a, 0)))
job_numbers (Path f a i) = (2, (f, (a, i)))
job_numbers (Draw f b) = (3, (f, (b, 0)))

abbrev pub job_of_kind : ℕ → ℕ → ℕ → ℕ → JobName
job_of_kind zero f a i = Logic f
job_of_kind (suc zero) f a i = Think f a
job_of_kind (suc (suc zero)) f a i = Path f a i
job_of_kind (suc (suc (suc n))) f a i = Draw f a

abbrev pub job_again : JobNumbers → JobName
job_again p = job_of_kind p.0 p.1.0 p.1.1.0 p.1.1.1

pub job_same : (j : JobName) → job_again (job_numbers j) ≡ j
job_same (Logic f) = refl
job_same (Think f a) = refl
job_same (Path f a i) = refl
job_same (Draw f b) = refl

abbrev pub job_code : Coded JobName
job_code = code_by JobNumbers (coded× coded_ℕ (coded× coded_ℕ (coded× coded_ℕ coded_ℕ))) job_numbers job_again job_same

abbrev pub event_parts : Event → ℕ × (ℕ × JobName)
event_parts (Start w j) = (0, (w, j))
event_parts (Resume w j) = (1, (w, j))
event_parts (Ask w j) = (2, (w, j))
event_parts (Spread w j) = (3, (w, j))
event_parts (Hold w j) = (4, (w, j))
event_parts (Finish w j) = (5, (w, j))
event_parts (Emit f) = (6, (f, Logic 0))
event_parts Stop = (7, (0, Logic 0))

abbrev pub event_of_kind : ℕ → ℕ → JobName → Event
event_of_kind zero w j = Start w j
event_of_kind (suc zero) w j = Resume w j
event_of_kind (suc (suc zero)) w j = Ask w j
event_of_kind (suc (suc (suc zero))) w j = Spread w j
event_of_kind (suc (suc (suc (suc zero)))) w j = Hold w j
event_of_kind (suc (suc (suc (suc (suc zero))))) w j = Finish w j
event_of_kind (suc (suc (suc (suc (suc (suc zero)))))) w j = Emit w
event_of_kind (suc (suc (suc (suc (suc (suc (suc n))))))) w j = Stop

abbrev pub event_again : ℕ × (ℕ × JobName) → Event
event_again p = event_of_kind p.0 p.1.0 p.1.1

pub event_same : (e : Event) → event_again (event_parts e) ≡ e
event_same (Emit f) = refl
event_same e = refl

abbrev pub event_code : Coded Event
event_code = code_by (ℕ × (ℕ × JobName)) (coded× coded_ℕ (coded× coded_ℕ job_code)) event_parts event_again event_same

abbrev pub numbers_code : Coded Numbers
numbers_code =
    code_by (ℕ × (ℕ × (ℕ × (ℕ × ℕ)))) (coded× coded_ℕ (coded× coded_ℕ (coded× coded_ℕ (coded× coded_ℕ coded_ℕ)))) (λ n. (n.frames, (n.workers, (n.small, (n.large, n.slots)))))
    (λ p. record { frames = p.0; workers = p.1.0; small = p.1.1.0; large = p.1.1.1.0; slots = p.1.1.1.1 }) (λ _. refl)

abbrev pub logged_code : Coded Logged
logged_code =
    code_by (Numbers × (ℕ × (ℕ × List Event))) (coded× numbers_code (coded× coded_ℕ (coded× coded_ℕ (coded_list event_code)))) (λ v. (v.numbers, (v.agents, (v.bands, v.events))))
    (λ p. record { numbers = p.0; agents = p.1.0; bands = p.1.1.0; events = p.1.1.1 }) (λ _. refl)

abbrev pub board_code : Coded FrameBoard
board_code = code_by (Logged × ℕ) (coded× logged_code coded_ℕ) (λ b. (b.jobs, b.most_questions)) (λ p. record { jobs = p.0; most_questions = p.1 }) (λ _. refl)
