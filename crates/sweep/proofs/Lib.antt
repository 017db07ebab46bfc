mod Reach
mod Trims
mod FirstPass
mod SecondPass
mod Swept
