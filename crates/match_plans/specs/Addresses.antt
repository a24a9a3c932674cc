-- The addresses of players in words.
use Rattle.std.specs.Prelude.{◌≡◌, ◌==◌, ◌&&◌, ◌⊎◌, ℕ, Bool, true, false, List, [], ◌∷◌, ◌++◌, Option, Some, None, if◌then◌else◌, is_some}
use Rattle.std.specs.List.{before_first, after_first}
use Rattle.std.specs.Net.Grammar.{IsIpv6Text}
use Rattle.std.specs.Str.{is_utf8}
use Rattle.std.specs.declared.net.ipv6_addr.Ipv6Addr.{Ipv6Addr}
use Rattle.desk_calls.specs.Names.{is_name}
use Rattle.match_plans.specs.Numbers.{port_of}
use Rattle.match_plans.specs.declared.addresses.PlayerAddress.{PlayerAddress}

-- the name in a player's address: the part before the first @
abbrev pub addressed_name : List ℕ → List ℕ
addressed_name word = before_first (λ b. b == 64) word

-- the parts before and after the last c of a text, given the parts of the text without its first byte
abbrev pub cut_here : ℕ → ℕ → List ℕ → Option (List ℕ × List ℕ) → Option (List ℕ × List ℕ)
cut_here c b more None = if b == c then Some ([], more) else None
cut_here c b more (Some cut) = Some (b ∷ cut.0, cut.1)

abbrev pub cut_at_last : ℕ → List ℕ → Option (List ℕ × List ℕ)
cut_at_last c [] = None
cut_at_last c (b ∷ more) = cut_here c b more (cut_at_last c more)

-- the host and the port in a player's address: the last : after the first @ separates them
abbrev pub addressed_place : List ℕ → Option (List ℕ × List ℕ)
addressed_place word = cut_at_last 58 (after_first (λ b. b == 64) word)

abbrev pub bracketed : List ℕ → List ℕ
bracketed text = 91 ∷ (text ++ 93 ∷ [])

abbrev pub IsIpv6 : List ℕ → Type 0
IsIpv6 text = (address : Ipv6Addr) × IsIpv6Text text address

-- The host is the address without its brackets if the text is an IPv6 address in brackets, and otherwise the text itself.
abbrev pub IsHostOf : List ℕ → List ℕ → Type 0
IsHostOf text host = ((text ≡ bracketed host) × IsIpv6 host) ⊎ ((host ≡ text) × ((inner : List ℕ) → text ≡ bracketed inner → ¬ (IsIpv6 inner)))

-- The word NAME@HOST:PORT gives the address, and the name in it is lawful.
pub record IsAddress (word : List ℕ) (address : PlayerAddress) : Type 0 where
  pub host : List ℕ
  pub port : List ℕ
  pub name : address.name.now ≡ addressed_name word
  pub is_lawful : is_name address.name.now ≡ true
  pub place : addressed_place word ≡ Some (host, port)
  pub is_host : IsHostOf host address.host.now
  pub is_port : port_of port ≡ Some address.port

-- a port follows the host
abbrev pub has_port : Option (List ℕ × List ℕ) → Bool
has_port None = false
has_port (Some place) = is_some (port_of place.1)

-- the word is NAME@HOST:PORT with a lawful name and port
abbrev pub is_address : List ℕ → Bool
is_address word = has_port (addressed_place word) && is_name (addressed_name word)

-- the same for bytes, which must be UTF-8 text
abbrev pub is_player : List ℕ → Bool
is_player word = is_utf8 word && is_address word
