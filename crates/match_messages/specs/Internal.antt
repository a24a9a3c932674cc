pub mod MessageParts
