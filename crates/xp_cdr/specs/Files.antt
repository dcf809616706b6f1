-- What a file has of octets that are on their way to it.
use Rattle.std.specs.Prelude.{◌≡◌, List, ◌++◌, ℕ}

-- Behind what it has on the disk (`synced`), the file has taken a front of these octets.
pub record HasFront (synced octets taken : List ℕ) : Type 0 where
  pub front : List ℕ
  pub rest : List ℕ
  pub octets_are : octets ≡ front ++ rest
  pub taken_is : taken ≡ synced ++ front

-- Of what the file had taken (`old`), it has lost at most an end, and nothing of what it has on the disk.
pub record LosesAnEnd (synced old new : List ℕ) : Type 0 where
  pub behind : List ℕ
  pub had : old ≡ synced ++ behind
  pub has : HasFront synced behind new
