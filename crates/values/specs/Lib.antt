pub mod Tweenables
pub mod Speeds
pub mod RunningSpeeds
pub mod Values
