-- What a parse of words says: the subcommand that was entered, and the help that was asked for.
use Rattle.std.proofs.Common.{◌≡◌, ◌≢◌, ◌∙◌, inl, inr, ap, sym, subst, ◌==◌, ◌&&◌, Bool, true, false, List, [], ◌∷◌, length, map, refl}
use Rattle.std.specs.Prelude.{String, Some, string_bytes, Result, Ok, Err, IfOk}
use Rattle.clap.specs.Words.{App, Row, Text, HasKind, HasMatchesOf, IsAmong, fault_of, kind_of, is_simple, is_simple_and_free, subcommand_of, subcommand_rows_of}
use Rattle.clap.specs.declared.error.Error.{Error}
use Rattle.clap.specs.declared.error.kind.ErrorKind.{ErrorKind}
use Rattle.clap.specs.declared.error.kind.ErrorKind.TheVariants as kinds
use Rattle.clap.specs.declared.parser.matches.ArgMatches.{ArgMatches}
use Rattle.clap.proofs.OnLiterals.{clap_on_literals}
use Rattle.command_line.specs.declared.words_fault.WordsFault.{WordsFault}
use Rattle.command_line.specs.declared.words_fault.WordsFault.TheVariants.{Help, Version}
use Rattle.command_line.specs.Program.{IsToldAs, IsAskedOf, program}

pub has_texts : {A : Type 0} (words : List (String A)) → (length words == 0) ≡ false → map (λ s. string_bytes s) words ≢ []
has_texts [] some none = cc
has_texts (word ∷ words) some none = cc

both : (x y : Bool) → (x && y) ≡ true → x ≡ true
both true y h = refl
both false y h = h

-- of a program whose rules are simple
module _ (program : App) (free : is_simple_and_free program ≡ true) where
  simple : is_simple program ≡ true
  simple = both _ _ free

  entered : (a : App) (words : List Text) (m : ArgMatches) → a ≡ program → HasMatchesOf a words m → (is_simple_and_free a ≡ true → fault_of a words ≡ []) → words ≢ []
      → (name : Text) (rows : List Row) → subcommand_rows_of m ≡ Some (name, rows) → (words ≢ []) × (fault_of program words ≡ []) × (subcommand_of program words ≡ Some (name, rows))
  entered a words m e h taken some name rows pair =
      let matches = h (ap is_simple e ∙ simple) in
      let whole : fault_of a words ≡ [] = taken (ap is_simple_and_free e ∙ free) in
      (some, sym (ap (λ (p : App). fault_of p words) e) ∙ whole, sym (ap (λ (p : App). subcommand_of p words) e) ∙ sym matches.1 ∙ pair)

  -- what is read of any words that enter what the matches have is read of these
  pub read_from : {V E : Type 0} (IsRead : List Text → V → Type 0) (a : App) (words : List Text) (m : ArgMatches) (r : Result V E) → a ≡ program → HasMatchesOf a words m
      → (is_simple_and_free a ≡ true → fault_of a words ≡ []) → words ≢ []
      → IfOk r (λ v. (ws : List Text)
      → ((name : Text) (rows : List Row) → subcommand_rows_of m ≡ Some (name, rows) → (ws ≢ []) × (fault_of program ws ≡ []) × (subcommand_of program ws ≡ Some (name, rows)))
      → IsRead ws v)
      → IfOk r (IsRead words)
  read_from IsRead a words m (Ok v) e h taken some read = read words (entered a words m e h taken some)
  read_from IsRead a words m (Err fault) e h taken some read = tt

  asks : (a : App) (words : List Text) (e : Error) (kind : ErrorKind) → a ≡ program → HasKind (fault_of a words) e → kind_of e ≡ kind → kind ≢ kinds.OutOfMemory
      → IsAmong kind (fault_of program words)
  asks a words e kind same (inl memory) is other = absurd (other (sym is ∙ memory))
  asks a words e kind same (inr among) is other =
      subst (λ (p : App). IsAmong kind (fault_of p words)) same (subst (λ k. IsAmong k (fault_of a words)) is among)

  pub asked_for : (a : App) (words : List Text) (e : Error) (fault : WordsFault) → a ≡ program → (is_simple_and_free a ≡ true → HasKind (fault_of a words) e)
      → IsToldAs (kind_of e) fault → IsAskedOf program words fault
  asked_for a words e (Help text) same has help = asks a words e kinds.DisplayHelp same (has (ap is_simple_and_free same ∙ free)) help (λ same. cc)
  asked_for a words e (Version text) same has version = asks a words e kinds.DisplayVersion same (has (ap is_simple_and_free same ∙ free)) version (λ same. cc)
  asked_for a words e _ same has said = tt

pub free : is_simple_and_free program ≡ true
unfolding clap_on_literals
free = refl
