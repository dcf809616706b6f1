-- States, causes and payers in words.
use Rattle.std.specs.Prelude.{ℕ, ◌==◌, ◌||◌, codes, if◌then◌else◌, List, [], ◌∷◌, nat_le}
use Rattle.xp_console.specs.declared.status.LineState.{LineState}
use Rattle.xp_console.specs.declared.status.LineState.TheVariants.{OutOfService, Ready, DteWaiting, DceWaiting, DataTransfer, DceClearIndication}
use Rattle.xp_console.specs.declared.status.Payer.{Payer}
use Rattle.xp_console.specs.declared.status.Payer.TheVariants.{Caller, Called}

-- the state of a line's channel, as X.25 Annex B names it
abbrev pub state_text : LineState → List ℕ
state_text OutOfService = codes "out of service"
state_text Ready = codes "ready"
state_text DteWaiting = codes "DTE waiting"
state_text DceWaiting = codes "DCE waiting"
state_text DataTransfer = codes "data transfer"
state_text DceClearIndication = codes "DCE clear indication"

-- the end that pays
abbrev pub payer_text : Payer → List ℕ
payer_text Caller = codes "caller"
payer_text Called = codes "called"

-- the clearing causes that the exchange sends, as X.25 clause 5.2.4 names them
abbrev pub cause_words : List (ℕ × List ℕ)
cause_words =
    (0x01, codes "number busy")
    ∷ (0x03, codes "invalid facility request")
    ∷ (0x05, codes "network congestion")
    ∷ (0x09, codes "out of order")
    ∷ (0x0b, codes "access barred")
    ∷ (0x0d, codes "not obtainable")
    ∷ (0x11, codes "remote procedure error")
    ∷ (0x13, codes "local procedure error")
    ∷ (0x19, codes "reverse charging acceptance not subscribed")
    ∷ (0x29, codes "fast select acceptance not subscribed")
    ∷ []

-- the words beside a code, or those others
abbrev pub words_at : List (ℕ × List ℕ) → ℕ → List ℕ → List ℕ
words_at [] cause other = other
words_at (first ∷ rest) cause other = if first.0 == cause then first.1 else words_at rest cause other

-- the clearing cause; 0 and those from 0x80 on are a DTE's own
abbrev pub cause_text : ℕ → List ℕ
cause_text cause =
    words_at cause_words cause (if cause == 0 || nat_le 0x80 cause then codes "DTE originated" else codes "unknown")
