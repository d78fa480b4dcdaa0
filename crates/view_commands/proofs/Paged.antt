-- What is written of a level and a log as a page, whole or in part.
use Rattle.std.proofs.Common.{◌≡◌, ◌≤◌, ◌<◌, ◌∙◌, ◌⊎◌, ℕ, List, [], Option, Some, None, inl, inr, refl, sym, ap, ap₂, subst, ◌++◌, length, take, append-nil, arith}
use Rattle.std.specs.Prelude.{⊤, IsSomeAnd, MatchOption, Result, Ok, Err, IfErr}
use Rattle.std.proofs.lemmas.List.{take_all}
use Rattle.std.specs.Io.KnownBytes.{Appends, Keeps}
use Rattle.byte_streams.specs.Streams.{AppendsPart}
use Rattle.game_rules.specs.Game.{Game}
use Rattle.job_core.specs.declared.names.Event.{Event}
use Rattle.job_core.specs.Core.{IsLegalList}
use Rattle.job_scheduler.specs.Numbers.{Numbers}
use Rattle.log_text.specs.Readings.{IsLog}
use Rattle.task_board.specs.Setups.{setup_for}
use Rattle.replay_log.specs.Replays.{IsIllegalAt, emits}
use Rattle.trace_text.specs.declared.span.FrameSpan.{FrameSpan}
use Rattle.page_text.specs.Films.{film_of}
use Rattle.page_text.specs.Frames.{frames_to}
use Rattle.page_text.specs.declared.filmed.Filmed.{Filmed}
use Rattle.page_text.specs.Filming.{IsFilmOf}
use Rattle.page_text.specs.Pages.{page_of}
use Rattle.command_line.specs.declared.program_fault.Fault.{Fault}
use Rattle.command_line.specs.declared.program_fault.Fault.TheVariants.{Incomplete}
use Rattle.level_text.specs.Games.{spelled_game}
use Rattle.view_commands.specs.Paging.{IsDoneLog, IsPageFault, IsShort, IsShowingFault, IsWhole, Pages, PagesPart, PagesSome, PagesSomePart, PageSources, page_for}

-- ---- the page of what is filmed

module _ (g : Game) (log : List ℕ) (settings : Numbers) (events : List Event) (filmed : Filmed) (sources : PageSources) (span : FrameSpan)
    (reading : IsLog log settings events) (film : IsFilmOf g settings events filmed) where
  page_is : page_of sources.name sources.level sources.script settings events filmed.done filmed.shown filmed.film.items span ++ sources.live
      ≡ page_for g sources settings events filmed.done span
  page_is =
      ap₂ (λ shown text. page_of sources.name sources.level sources.script settings events filmed.done shown text span ++ sources.live) film.shown
      (film.film ∙ ap (λ n. film_of (frames_to g n)) film.shown)

  done_log : IsDoneLog g log settings events filmed.done
  done_log = record { reading = reading; lawful = film.lawful; end = film.end }

  module _ (page : List ℕ) (same : page ≡ page_of sources.name sources.level sources.script settings events filmed.done filmed.shown filmed.film.items span ++ sources.live)
      (old new : Option (List ℕ)) where
    pub first_page : AppendsPart old new page → PagesPart old new sources span log g
    first_page wrote = inr (settings, events, filmed.done, done_log, subst (AppendsPart old new) (same ∙ page_is) wrote)

    pub all_page : Appends old new page → PagesPart old new sources span log g
    all_page wrote = first_page (page, [], sym (append-nil page), wrote)

    pub whole_page : Appends old new page → IsWhole settings events filmed → Pages old new sources span log g
    whole_page wrote whole =
        let all : filmed.done ≡ length events = omega (arith, film.within, whole.all) in
        let shown : filmed.shown ≡ emits events = film.shown ∙ ap (λ k. emits (take k events)) all ∙ ap emits (take_all (length events) events (omega arith)) in (
          settings,
          events,
          subst (IsDoneLog g log settings events) all done_log,
          subst (λ n. settings.frames ≤ n) shown whole.whole,
          subst (Appends old new) (same ∙ page_is ∙ ap (λ done. page_for g sources settings events done span) all) wrote,
        )

  -- why it isn't whole
  at_end : (filmed.done ≡ length events) ⊎ IsIllegalAt (setup_for g settings) events filmed.done → filmed.done < length events
      → IsIllegalAt (setup_for g settings) events filmed.done
  at_end (inl e) less = absurd (omega (arith, e, less))
  at_end (inr illegal) less = illegal

  short_fault : (fault : Fault) → IsShort settings events filmed fault → IsShowingFault g events settings fault
  short_fault fault (inl h) = inr (inr (inl (filmed.done, at_end film.end h.0, h.1)))
  short_fault fault (inr h) =
      let all : filmed.done ≡ length events = omega (arith, film.within, h.0) in
      let front : take filmed.done events ≡ events = ap (λ k. take k events) all ∙ take_all (length events) events (omega arith) in
      let shown : filmed.shown ≡ emits events = film.shown ∙ ap emits front in
      inr (inr (inr (
        h.2 ∙ ap (λ n. Incomplete n settings.frames) shown,
        subst (IsLegalList (setup_for g settings)) front film.lawful,
        subst (λ n. n < settings.frames) shown h.1,
      )))

  pub said : (r : Result (⊤) Fault) → IfErr r (IsShort settings events filmed) → IfErr r (λ fault. IsPageFault log fault g)
  said (Ok x) h = tt
  said (Err fault) h = inr (settings, events, reading, short_fault fault h)

-- ---- all that is written is a part

pages_part : (old new : Option (List ℕ)) (sources : PageSources) (span : FrameSpan) (log : List ℕ) (g : Game) → Pages old new sources span log g
    → PagesPart old new sources span log g
pages_part old new sources span log g h =
    let page = page_for g sources h.0 h.1 (length h.1) span in
    inr (h.0, h.1, length h.1, h.2, (page, [], sym (append-nil page), h.4))

in_game : (old new : Option (List ℕ)) (sources : PageSources) (span : FrameSpan) (log : List ℕ) (game : Option Game) → IsSomeAnd game (Pages old new sources span log)
    → IsSomeAnd game (PagesPart old new sources span log)
in_game old new sources span log None h = absurd h
in_game old new sources span log (Some g) h = pages_part old new sources span log g h

pub pages_some_part : (old new : Option (List ℕ)) (span : FrameSpan) → PagesSome old new span → PagesSomePart old new span
pages_some_part old new span h = inr (h.0, h.1, in_game old new h.0 span h.1 (spelled_game h.0.level h.0.script) h.2)

-- of bytes that may spell no game
some_page : (old new : Option (List ℕ)) (sources : PageSources) (span : FrameSpan) (log : List ℕ) (game : Option Game) → spelled_game sources.level sources.script ≡ game
    → MatchOption game (Keeps old new) (PagesPart old new sources span log) → PagesSomePart old new span
some_page old new sources span log None e h = inl h
some_page old new sources span log (Some g) e h =
    inr (sources, log, subst (λ game. IsSomeAnd game (PagesPart old new sources span log)) (sym e) h)

pub page_of_some : (old new : Option (List ℕ)) (sources : PageSources) (span : FrameSpan) (log : List ℕ)
    → MatchOption (spelled_game sources.level sources.script) (Keeps old new) (PagesPart old new sources span log) → PagesSomePart old new span
page_of_some old new sources span log h = some_page old new sources span log (spelled_game sources.level sources.script) refl h
