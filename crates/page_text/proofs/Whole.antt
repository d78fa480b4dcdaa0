-- The parts of a page, appended one after another.
use Rattle.std.proofs.Common.{◌≡◌, ◌∙◌, ℕ, List, [], ◌++◌, length, take, drop, refl, ap, append_assoc}
use Rattle.std.specs.Prelude.{OnOk, Result, Ok, Err}
use Rattle.job_core.specs.declared.names.Event.{Event}
use Rattle.job_scheduler.specs.Numbers.{Numbers}
use Rattle.log_text.specs.Text.{log_text_of}
use Rattle.trace_text.specs.declared.span.FrameSpan.{FrameSpan}
use Rattle.page_text.specs.Emits.{emits_text}
use Rattle.page_text.specs.Escapes.{escaped}
use Rattle.page_text.specs.Pages.{counts_text, ending_text, jobs_text, page_of, run_text, sources_text}
use Rattle.page_text.specs.Slices.{slices_text}
use Rattle.page_text.specs.declared.body.TheConstants.{BODY}
use Rattle.page_text.specs.declared.jobs.TheConstants.{EMITS, SLICES}
use Rattle.page_text.specs.declared.run.TheConstants.{ABOUT, FRAMES, LOG}
use Rattle.page_text.specs.declared.sources.TheConstants.{LEVEL, SCRIPT}
use Rattle.page_text.specs.declared.style.TheConstants.{STYLE}

pub on_ok : {T E : Type 0} (r : Result T E) (P Q : Type 0) → (P → Q) → OnOk r P → OnOk r Q
on_ok (Ok x) P Q f p = f p
on_ok (Err e) P Q f p = tt

-- three texts behind what was there
three : (old first second third a b c : List ℕ) → first ≡ old ++ a → second ≡ first ++ b → third ≡ second ++ c → third ≡ old ++ (a ++ b ++ c)
three old first second third a b c x y z =
    z ∙ ap (λ l. l ++ c) (y ∙ ap (λ l. l ++ b) x) ∙ ap (λ l. l ++ c) (append_assoc old a b) ∙ append_assoc old (a ++ b) c

pub sources_are : (name level script old first second third : List ℕ) → first ≡ old ++ (STYLE.now ++ BODY.now ++ escaped name)
    → second ≡ first ++ (LEVEL.now ++ escaped level) → third ≡ second ++ (SCRIPT.now ++ escaped script) → third ≡ old ++ sources_text name level script
unfolding sources_text
sources_are name level script old first second third x y z =
    three old first second third (STYLE.now ++ BODY.now ++ escaped name) (LEVEL.now ++ escaped level) (SCRIPT.now ++ escaped script) x y z

pub run_is : (settings : Numbers) (events : List Event) (done shown : ℕ) (film log counts old first second third : List ℕ)
    → log ≡ log_text_of settings (take 1 (drop done events)) → counts ≡ counts_text shown done (length events)
    → first ≡ old ++ (LOG.now ++ escaped log) → second ≡ first ++ (ABOUT.now ++ escaped counts) → third ≡ second ++ (FRAMES.now ++ escaped film)
    → third ≡ old ++ run_text settings events done shown film
unfolding run_text
run_is settings events done shown film log counts old first second third logged counted x y z =
    three old first second third (LOG.now ++ escaped (log_text_of settings (take 1 (drop done events))))
    (ABOUT.now ++ escaped (counts_text shown done (length events))) (FRAMES.now ++ escaped film)
    (x ∙ ap (λ l. old ++ (LOG.now ++ escaped l)) logged) (y ∙ ap (λ l. first ++ (ABOUT.now ++ escaped l)) counted) z

pub jobs_are : (events : List Event) (done : ℕ) (span : FrameSpan) (emits slices old first second third : List ℕ)
    → emits ≡ emits_text (take done events) → slices ≡ slices_text span events
    → first ≡ old ++ (EMITS.now ++ escaped emits) → second ≡ first ++ (SLICES.now ++ escaped slices) → third ≡ second ++ ending_text
    → third ≡ old ++ jobs_text events done span
unfolding jobs_text
jobs_are events done span emits slices old first second third shown told x y z =
    three old first second third (EMITS.now ++ escaped (emits_text (take done events))) (SLICES.now ++ escaped (slices_text span events)) ending_text
    (x ∙ ap (λ l. old ++ (EMITS.now ++ escaped l)) shown) (y ∙ ap (λ l. first ++ (SLICES.now ++ escaped l)) told) z

-- ---- all of them are the page

joined : (name level script : List ℕ) (settings : Numbers) (events : List Event) (done shown : ℕ) (film : List ℕ) (span : FrameSpan)
    → sources_text name level script ++ run_text settings events done shown film ++ jobs_text events done span
    ≡ page_of name level script settings events done shown film span
unfolding page_of
joined name level script settings events done shown film span = refl

pub in_three : (name level script : List ℕ) (settings : Numbers) (events : List Event) (done shown : ℕ) (film : List ℕ) (span : FrameSpan)
    (none first second third : List ℕ) → none ≡ [] → first ≡ none ++ sources_text name level script
    → second ≡ first ++ run_text settings events done shown film → third ≡ second ++ jobs_text events done span
    → third ≡ page_of name level script settings events done shown film span
in_three name level script settings events done shown film span none first second third empty a b c =
    let s = sources_text name level script in
    let r = run_text settings events done shown film in
    let j = jobs_text events done span in
    c ∙ ap (λ l. l ++ j) (b ∙ ap (λ l. l ++ r) (a ∙ ap (λ l. l ++ s) empty)) ∙ joined name level script settings events done shown film span
