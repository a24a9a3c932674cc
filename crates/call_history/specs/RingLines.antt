-- A line over rings as contracts see it: the calls that it posted, the replies that it took, and its rings.
use Rattle.std.specs.Prelude.{◌≡◌, ℕ, ◌<◌, Bool, List, [], length, slice_index_or}
use Rattle.std.specs.List.{All}
use Rattle.std.specs.Global.{Global}
use Rattle.rtrb.specs.Ring.{sent, received, known_free, producer_capacity, consumer_capacity, IsPair, SameProducer, SameConsumer}
use Rattle.rtrb.specs.declared.AnyItems.{AnyItems}
use Rattle.rtrb.specs.declared.consumer.Consumer.{Consumer}
use Rattle.rtrb.specs.declared.producer.Producer.{Producer}
use Rattle.call_history.specs.declared.port.Port.{Port}

-- a line, or its end, as contracts see it: the line's number, and its ends of the rings for calls and for replies
pub record LineValue (C R : Type 0) : Type 0 where
  pub number : ℕ
  pub calls : Producer C Global AnyItems
  pub replies : Consumer R Global AnyItems

-- a wire over a line as contracts see it: the line, the tries for each call, and whether the wire has stalled
pub record RingWireValue (C R : Type 0) : Type 0 where
  pub line : LineValue C R
  pub tries : ℕ
  pub has_stalled : Bool

-- the desk's ends of the same two rings
pub record SamePort {C R : Type 0} (a b : Port C R) : Type 0 where
  pub calls : SameConsumer a.calls b.calls
  pub replies : SameProducer a.replies b.replies

-- the same ends for each line: the desk has the same lines
pub record SamePorts {C R : Type 0} (before after : List (Port C R)) : Type 0 where
  pub count : length after ≡ length before
  pub each : (i : ℕ) (p : Port C R) → i < length before → SamePort (slice_index_or before i p) (slice_index_or after i p)

module _ {C R : Type 0} where
  abbrev pub posted_calls : LineValue C R → List C
  posted_calls line = sent line.calls

  -- the replies that the line took, in order
  abbrev pub taken_replies : LineValue C R → List R
  taken_replies line = received line.replies

  -- the same number, and ends of the same two rings
  abbrev pub SameLine : LineValue C R → LineValue C R → Type 0
  SameLine a b = (b.number ≡ a.number) × SameProducer a.calls b.calls × SameConsumer a.replies b.replies

  -- the two sides of the two rings of one line
  abbrev pub IsPortOf : Port C R → LineValue C R → Type 0
  IsPortOf port line = IsPair line.calls port.calls × IsPair port.replies line.replies

  pub record IsLineOf (ports : List (Port C R)) (line : LineValue C R) : Type 0 where
    pub within : line.number < length ports
    pub rings : (p : Port C R) → IsPortOf (slice_index_or ports line.number p) line

  abbrev pub AreEndsOf : List (Port C R) → List (LineValue C R) → Type 0
  AreEndsOf ports ends = All (IsLineOf ports) ends

  -- a new line of the desk with these ports: it has this number, and has posted and taken nothing
  pub record IsNewLine (ports : List (Port C R)) (number : ℕ) (line : LineValue C R) : Type 0 where
    pub number_is : line.number ≡ number
    pub rings : (p : Port C R) → IsPortOf (slice_index_or ports number p) line
    pub posted : posted_calls line ≡ []
    pub taken : taken_replies line ≡ []

  abbrev pub AreNewLines : List (Port C R) → List (LineValue C R) → Type 0
  AreNewLines ports lines = (i : ℕ) (line : LineValue C R) → i < length lines → IsNewLine ports i (slice_index_or lines i line)

  -- the rings of a new line have this many slots, and all slots for calls are free
  pub record HasRoom (room : ℕ) (line : LineValue C R) : Type 0 where
    pub calls : producer_capacity line.calls ≡ room
    pub free : known_free line.calls ≡ room
    pub replies : consumer_capacity line.replies ≡ room
