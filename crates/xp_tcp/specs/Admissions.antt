-- From where the connections of a line may come.
use Rattle.std.specs.Prelude.{◌≡◌, ◌<◌, ◌⊎◌, ℕ, List, [], ◌∷◌, ◌++◌, Any, length}
use Rattle.std.specs.declared.net.ip_addr.IpAddr.{IpAddr}
use Rattle.xp_tcp.specs.Networks.{Includes, IsNoSourceText, IsSourceText}
use Rattle.xp_tcp.specs.declared.admission.AdmissionFault.{AdmissionFault}
use Rattle.xp_tcp.specs.declared.admission.AdmissionFault.TheVariants.{Full, NoSource}
use Rattle.xp_tcp.specs.declared.source.Source.{Source}

-- a peer's connections may come: there are no sources, or one of them includes the peer
abbrev pub Admits : List Source → IpAddr → Type 0
Admits sources peer = (sources ≡ []) ⊎ Any (λ source. Includes source peer) sources

-- the text is that of a source, which is added, and there was room for it
pub record Adds (old : List Source) (text : List ℕ) (new : List Source) : Type 0 where
  pub source : Source
  pub named : IsSourceText text source
  pub room : length old < 8
  pub one_more : new ≡ old ++ source ∷ []

-- why the source of a text is not added: no source has that text, or one has and there are 8 already
abbrev pub IsRefused : List Source → List ℕ → AdmissionFault → Type 0
IsRefused old text NoSource = IsNoSourceText text
IsRefused old text Full = ((source : Source) × IsSourceText text source) × (length old ≡ 8)
