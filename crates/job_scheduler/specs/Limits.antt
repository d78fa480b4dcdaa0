-- The first number that is out of its limits.
use Rattle.std.specs.Prelude.{ℕ, nat_le, Bool, ◌&&◌, if◌then◌else◌, Option, Some, None}
use Rattle.job_scheduler.specs.declared.settings.SettingsFault.{SettingsFault}
use Rattle.job_scheduler.specs.declared.settings.SettingsFault.TheVariants.{Workers, Fibers, Slots, Frames}
use Rattle.job_scheduler.specs.Numbers.{Numbers}

abbrev pub is_from : ℕ → ℕ → ℕ → Bool
is_from least most n = nat_le least n && nat_le n most

abbrev pub settings_fault : Numbers → Option SettingsFault
settings_fault n =
    if is_from 1 16 n.workers then (if is_from 1 16 n.small && is_from 2 63 n.large then (if is_from 1 16 n.slots then (if nat_le n.frames 9999 then None else Some Frames)
    else Some Slots)
    else Some Fibers)
    else Some Workers

abbrev pub wide_settings_fault : Numbers → Option SettingsFault
wide_settings_fault n =
    if is_from 1 64 n.workers then (if is_from 1 64 n.small && is_from 2 64 n.large then (if is_from 1 16 n.slots then (if nat_le n.frames 9999 then None else Some Frames)
    else Some Slots)
    else Some Fibers)
    else Some Workers
