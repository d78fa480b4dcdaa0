-- The text of a page: fixed parts, and between them what it holds.
use Rattle.std.specs.Prelude.{ℕ, List, ◌++◌, codes, decimal, length, take, drop}
use Rattle.job_core.specs.declared.names.Event.{Event}
use Rattle.job_scheduler.specs.Numbers.{Numbers}
use Rattle.log_text.specs.Text.{log_text_of}
use Rattle.trace_text.specs.declared.span.FrameSpan.{FrameSpan}
use Rattle.page_text.specs.Escapes.{escaped}
use Rattle.page_text.specs.Emits.{emits_text}
use Rattle.page_text.specs.Slices.{slices_text}
use Rattle.page_text.specs.declared.style.TheConstants.{STYLE}
use Rattle.page_text.specs.declared.body.TheConstants.{BODY}
use Rattle.page_text.specs.declared.sources.TheConstants.{LEVEL, SCRIPT}
use Rattle.page_text.specs.declared.run.TheConstants.{LOG, ABOUT, FRAMES}
use Rattle.page_text.specs.declared.jobs.TheConstants.{EMITS, SLICES}
use Rattle.page_text.specs.declared.script_data.TheConstants.{DATA}
use Rattle.page_text.specs.declared.script_map.TheConstants.{MAP}
use Rattle.page_text.specs.declared.script_agents.TheConstants.{AGENTS}
use Rattle.page_text.specs.declared.script_jobs.TheConstants.{JOBS}
use Rattle.page_text.specs.declared.script_hands.TheConstants.{HANDS}

-- the level's name, and what the files of level and script hold
unfoldable pub sources_text : (name level script : List ℕ) → List ℕ
sources_text name level script = (STYLE.now ++ BODY.now ++ escaped name) ++ (LEVEL.now ++ escaped level) ++ (SCRIPT.now ++ escaped script)

-- how many frames are shown, how many events are done, and how many there are
abbrev pub counts_text : (shown done events : ℕ) → List ℕ
counts_text shown done events =
    (codes "{\"shown\":" ++ decimal shown) ++ (codes ",\"done\":" ++ decimal done) ++ (codes ",\"events\":" ++ decimal events) ++ codes "}"

-- so many events are done, which show so many frames, whose film this is; of the others the first is told
unfoldable pub run_text : Numbers → List Event → (done shown : ℕ) → (film : List ℕ) → List ℕ
run_text settings events done shown film =
    (LOG.now ++ escaped (log_text_of settings (take 1 (drop done events)))) ++ (ABOUT.now ++ escaped (counts_text shown done (length events)))
    ++ (FRAMES.now ++ escaped film)

-- the page's own script
abbrev pub ending_text : List ℕ
ending_text = (DATA.now ++ MAP.now ++ AGENTS.now) ++ (JOBS.now ++ HANDS.now)

unfoldable pub jobs_text : List Event → (done : ℕ) → FrameSpan → List ℕ
jobs_text events done span = (EMITS.now ++ escaped (emits_text (take done events))) ++ (SLICES.now ++ escaped (slices_text span events)) ++ ending_text

-- the whole
unfoldable pub page_of : (name level script : List ℕ) → Numbers → List Event → (done shown : ℕ) → (film : List ℕ) → FrameSpan → List ℕ
page_of name level script settings events done shown film span =
    sources_text name level script ++ run_text settings events done shown film ++ jobs_text events done span
