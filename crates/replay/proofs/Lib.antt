-- CallBytes: the bytes of calls and answers. Replays: the loop of `play`, and each way out of `replay`.
pub mod CallBytes
pub mod Replays
