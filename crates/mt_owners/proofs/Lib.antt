mod Exact
mod Rising
