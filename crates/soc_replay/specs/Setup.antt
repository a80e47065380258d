-- What a run goes by, as its settings and tokens say it, or which of them is refused and why: this project's profile.
use Rattle.std.specs.Prelude.{◌≡◌, ℕ, List, Option, Result, Ok, Err, ⊤}
use Rattle.soc_schema.specs.declared.token.Token.{Token}
use Rattle.soc_replay.specs.declared.refusal.FilesFault.{FilesFault}
use Rattle.soc_replay.specs.declared.refusal.FilesFault.TheVariants.{Refused, Tree, Maker, NoMemory}
use Rattle.soc_replay.specs.declared.settings.Settings.{Settings}
use Rattle.soc_replay.specs.declared.settings.SettingsError.{SettingsError}
use Rattle.soc_replay.specs.declared.setup.Setup.{Setup}
use Rattle.soc_replay.specs.declared.token_text.TokensError.{TokensError}
use Rattle.soc_replay.specs.Refusals.{of_settings, of_tokens}
use Rattle.soc_replay.specs.Settings.{settings_of}
use Rattle.soc_replay.specs.TokenText.{tokens_said}

abbrev pub setup_with : Settings → List Token → Option (List ℕ) → Option (List ℕ) → Setup
setup_with said brought page version = record {
  rules = record { rules = said.rules; tokens = brought; public = said.public; session_bytes = said.session_bytes; page = page; version = version };
  limits = said.limits;
}

-- the tokens are looked at once the settings are good
abbrev pub setup_by : Settings → Result (List Token) TokensError → Option (List ℕ) → Option (List ℕ) → Result Setup FilesFault
setup_by said (Ok brought) page version = Ok (setup_with said brought page version)
setup_by said (Err error) page version = Err (of_tokens error)

abbrev pub setup_from : Result Settings SettingsError → Result (List Token) TokensError → Option (List ℕ) → Option (List ℕ) → Result Setup FilesFault
setup_from (Ok said) brought page version = setup_by said brought page version
setup_from (Err error) brought page version = Err (of_settings error)

-- what the bytes of `settings.toml` and `tokens.toml` say, with a page and what tells of the program
abbrev pub setup_of : List ℕ → List ℕ → Option (List ℕ) → Option (List ℕ) → Result Setup FilesFault
setup_of said brought page version = setup_from (settings_of said) (tokens_said brought) page version

-- a refusal is what the texts say; want of memory says nothing of them
abbrev pub IsSetupFault : Result Setup FilesFault → FilesFault → Type 0
IsSetupFault said (Refused refusal) = said ≡ Err (Refused refusal)
IsSetupFault said NoMemory = ⊤
IsSetupFault said Tree = ⊥
IsSetupFault said Maker = ⊥
