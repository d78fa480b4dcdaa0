-- A text that is not loaded is no state's of the level.
use Rattle.std.proofs.Common.{ℕ, ◌≡◌, ◌∙◌, List, map, refl, sym, ap, subst, Ok}
use Rattle.std.specs.Prelude.{◌≢◌, Result}
use Rattle.bt_nodes.specs.Sizes.{size}
use Rattle.game_rules.specs.Game.{Game}
use Rattle.stepping.specs.declared.load_fault.LoadFault.{LoadFault}
use Rattle.stepping.specs.declared.load_fault.LoadFault.TheVariants.{OutOfMemory, Text, Level, World}
use Rattle.stepping.specs.LevelDigest.{level_digest_of}
use Rattle.stepping.specs.Played.{Played}
use Rattle.stepping.specs.StateReading.{StateTold, Fails, IsOfNone, state_at, told_of}
use Rattle.stepping.specs.StateText.{state_text, AreOfOneLevel, IsNoText, IsState}
use Rattle.stepping.proofs.ToldApart.{read_by, read_again, read_as, told_text}

module _ (g : Game) (text : List ℕ) where
  -- read with the digest that was computed
  abbrev read_with : ℕ → Result StateTold LoadFault
  read_with digest = state_at digest g.world.width g.world.height (map size g.trees) text

  pub level_reads : (digest : ℕ) (t : StateTold) → digest ≡ level_digest_of g → read_with digest ≡ Ok t → read_by g text ≡ Ok t
  level_reads digest t is read = ap read_with (sym is) ∙ read

  pub level_fails : (digest : ℕ) (e : LoadFault) → digest ≡ level_digest_of g → Fails e (read_with digest) → Fails e (read_by g text)
  level_fails digest e is failed = subst (λ (d : ℕ). Fails e (read_with d)) is failed

  -- where it is a state's
  read_so : (p : Played) → IsState p → AreOfOneLevel g p.game → state_text p ≡ text → read_by g text ≡ Ok (told_of p)
  read_so p is level same = ap (read_by g) (sym same) ∙ read_again g p is level

  pub not_read : (e : LoadFault) → Fails e (read_by g text) → e ≢ OutOfMemory → IsNoText g text
  not_read OutOfMemory failed other p is level same = other refl
  not_read Text failed other p is level same = let r = sym failed ∙ read_so p is level same in cc
  not_read Level failed other p is level same = let r = sym failed ∙ read_so p is level same in cc
  not_read World failed other p is level same = let r = sym failed ∙ read_so p is level same in cc

  module _ (t : StateTold) (read : read_by g text ≡ Ok t) where
    told_so : (p : Played) → IsState p → AreOfOneLevel g p.game → state_text p ≡ text → t ≡ told_of p
    told_so p is level same = read_as t (told_of p) (read_by g text) read (read_so p is level same)

    pub not_placed : IsOfNone g t → IsNoText g text
    not_placed none p is level same = none p is level (told_so p is level same)

    pub not_written : (s : Played) → IsState s → AreOfOneLevel s.game g → told_of s ≡ t → state_text s ≢ text → IsNoText g text
    not_written s kept own told differs p is level same =
        differs (told_text s p kept is (record { world = own.world ∙ level.world; trees = own.trees ∙ level.trees }) (told ∙ told_so p is level same) ∙ same)
